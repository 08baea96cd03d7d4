use Rattle.std.proofs.Common.{rules, ◌≡◌, ◌∷◌, List, ap, subst}
use Rattle.tr_book.proofs.RowLemmas.{row-runs}
use Rattle.tr_book.proofs.runs.Runs.push_known.Goals as goal
use Rattle.tr_book.specs.Runs.{AreInRow, runs_of}
use Rattle.tr_record.specs.Records.{Entry}

pub returns : goal.returns
returns g c =
    let e : Entry = c.in-Some.first in
    let es : List Entry = c.next.new.self in
    let all : c.args.records ≡ e ∷ es = search rules in
    let row : AreInRow c.args.records = c.requires.row (search rules) in
    let one = row-runs c.args.seq e es (subst AreInRow all row) in
    let runs : runs_of c.args.seq c.args.records ≡ runs_of c.args.seq (e ∷ es) = ap (runs_of c.args.seq) all in
    search (rules, one, runs)
