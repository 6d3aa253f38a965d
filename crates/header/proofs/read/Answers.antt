-- `header::read` meets its contract: by its store, and by how the header begins. Assumes nothing.
use mathlib.Core.Path.{refl, sym}
use Rattle.references.proofs.Halves.{start-there}
use Rattle.header.proofs.Leaving.{no_store, begins, begins_wrong}
use Rattle.header.proofs.read.Goals as goal

pub returns-then-store-ne-STORE_BYTES : goal.returns-then-store-ne-STORE_BYTES
returns-then-store-ne-STORE_BYTES c =
    let e = no_store c.args.b.now c.args.cache c.args.store.now c.if-store-ne-STORE_BYTES.true in
    record { answer = rw e refl; store = rw e refl }

pub names-requires-clause-flags : goal.names-requires-clause-flags
names-requires-clause-flags c = start-there _ (λ k. (c.type_inv.b k).fits) (sym c.in-Ok.ensures)

pub returns-in-Ok : goal.returns-in-Ok
returns-in-Ok c =
    let e = begins c.args.b.now c.args.cache c.args.store.now c.if-store-ne-STORE_BYTES.false (sym c.in-Ok.ensures) in
    record { answer = rw e c.names.ensures.answer; store = rw e c.names.ensures.store }

pub returns-in-Err : goal.returns-in-Err
returns-in-Err c =
    let e = begins_wrong c.args.b.now c.args.cache c.args.store.now c.if-store-ne-STORE_BYTES.false (sym c.in-Err.ensures) in
    record { answer = rw e refl; store = rw e refl }
