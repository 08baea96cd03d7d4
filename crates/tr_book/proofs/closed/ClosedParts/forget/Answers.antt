use Rattle.std.proofs.Common.{rules, ◌≡◌, ◌∙◌, ◌+◌, ◌-◌, ◌<◌, Some, arith, length, max, refl, sym}
use Rattle.std.proofs.lemmas.Option.{slice_get_read}
use Rattle.std.specs.Prelude.{slice_get}
use Rattle.tr_book.proofs.ClosedLemmas.{enough-starts, forgets, forgets-count}
use Rattle.tr_book.specs.Closed.{forgotten_of}
use Rattle.tr_book.specs.declared.closed.ClosedParts.{ClosedParts}
use Rattle.tr_book.proofs.closed.ClosedParts.forget.Goals as goal

pub returns-clause-closed : goal.returns-clause-closed
returns-clause-closed g c =
    let old = c.args.self.now in
    let n = c.args.k - c.forgotten-2.result in
    let new : ClosedParts g.row.A.Denot = record {
      gone = c.note_gone.new.gone;
      begin = c.index.result.now;
      parts = c.drop_first.new.items;
      starts = c.drop_first-2.new.items;
    } in
    let more : forgotten_of old < c.args.k = search rules in
    let upto : c.args.k ≡ forgotten_of old + n = omega (arith, more, c.forgotten-2.ensures) in
    let some : 0 < n = omega (arith, more, c.forgotten-2.ensures) in
    let within = enough-starts old c.args.k n c.requires.closed upto c.requires.within in
    let begin : slice_get old.starts.items (n - 1) ≡ Some c.index.result.now =
    slice_get_read old.starts.items (length old.starts.items) (n - 1) c.index.result.now refl (omega (arith, some, within))
    c.index.ensures in
    forgets old new c.args.k n c.requires.closed upto c.requires.within some c.requires.released
    (search rules) (search rules) c.drop_first.ensures c.drop_first-2.ensures begin

pub returns-clause-ok : goal.returns-clause-ok
returns-clause-ok g c =
    let old = c.args.self.now in
    let n = c.args.k - c.forgotten-2.result in
    let new : ClosedParts g.row.A.Denot = record {
      gone = c.note_gone.new.gone;
      begin = c.index.result.now;
      parts = c.drop_first.new.items;
      starts = c.drop_first-2.new.items;
    } in
    let more : forgotten_of old < c.args.k = search rules in
    let upto : c.args.k ≡ forgotten_of old + n = omega (arith, more, c.forgotten-2.ensures) in
    let some : 0 < n = omega (arith, more, c.forgotten-2.ensures) in
    let within = enough-starts old c.args.k n c.requires.closed upto c.requires.within in
    let begin : slice_get old.starts.items (n - 1) ≡ Some c.index.result.now =
    slice_get_read old.starts.items (length old.starts.items) (n - 1) c.index.result.now refl (omega (arith, some, within))
    c.index.ensures in
    let count : forgotten_of new ≡ c.args.k =
    forgets-count old new c.args.k n c.requires.closed upto c.requires.within some c.requires.released
    (search rules) (search rules) c.drop_first.ensures c.drop_first-2.ensures begin in
    let greater : max c.args.k (forgotten_of old) ≡ c.args.k = omega (arith, more) in
    count ∙ sym greater
