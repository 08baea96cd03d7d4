use Rattle.std.proofs.Common.{rules, ◌≡◌, ◌-◌, ◌∷◌, ◌∙◌, List, ap, arith, cond, false, leb, length, nat_lt, subst, sym, true}
use Rattle.std.proofs.lemmas.Bool.Decides.{nat_tests}
use Rattle.tr_book.proofs.PacketLemmas.{row-has}
use Rattle.tr_book.proofs.runs.has_known.Goals as goal
use Rattle.tr_book.specs.Runs.{AreInRow}
use Rattle.tr_record.specs.Records.{Entry, has_serial}

pub returns-then-first-serial : goal.returns-then-first-serial
returns-then-first-serial c =
    let n = c.args.serial in
    let e : Entry = c.in-Some.first in
    let es : List Entry = c.next.new.self in
    let all : c.args.records ≡ e ∷ es = search rules in
    let row : AreInRow c.args.records = c.requires.row (search rules) in
    let value : c.serial-first.result ≡ e.serial = search rules in
    let test : leb e.serial n ≡ true = grind (arith, nat_tests, value, c.if-first-serial.true) in
    let has : has_serial n c.args.records ≡ nat_lt (n - e.serial) (length (e ∷ es)) =
    ap (has_serial n) all ∙ row-has n e es (subst AreInRow all row)
    ∙ ap (λ b. cond b (nat_lt (n - e.serial) (length (e ∷ es))) false) test in
    ap (λ m. nat_lt (n - m) c.args.count) value
    ∙ ap (λ k. nat_lt (n - e.serial) k) (c.requires.count ∙ ap length all) ∙ sym has

pub returns-else-first-serial : goal.returns-else-first-serial
returns-else-first-serial c =
    let n = c.args.serial in
    let e : Entry = c.in-Some.first in
    let es : List Entry = c.next.new.self in
    let all : c.args.records ≡ e ∷ es = search rules in
    let row : AreInRow c.args.records = c.requires.row (search rules) in
    let value : c.serial-first.result ≡ e.serial = search rules in
    let test : leb e.serial n ≡ false = grind (arith, nat_tests, value, c.if-first-serial.false) in
    let has : has_serial n c.args.records ≡ false =
    ap (has_serial n) all ∙ row-has n e es (subst AreInRow all row)
    ∙ ap (λ b. cond b (nat_lt (n - e.serial) (length (e ∷ es))) false) test in
    ap (λ m. leb m n) value ∙ test ∙ sym has
