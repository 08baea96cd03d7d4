use Rattle.std.proofs.Common.{◌≡◌, ◌+◌, ◌≤◌, ℕ, length, drop, ap, ◌∙◌, sym, subst, refl, arith}
use Rattle.std.proofs.lemmas.Bool.{false≢true}
use Rattle.tr_record.specs.Raw.{entry_of}
use Rattle.tr_record.specs.Records.{Entry, Stands}
use Rattle.tr_record.proofs.ReadingLemmas.{begins_stands, stands_begins, same_answer}
use Rattle.tr_terms.specs.declared.limits.TheConstants.{LAST_MOMENT}
use Rattle.tr_record.proofs.reading.read_rec.Goals as goal

pub returns-in_err-raw-clause-only : goal.returns-in_err-raw-clause-only
returns-in_err-raw-clause-only c = λ e n s. absurd (c.in_err-raw.ensures.only e (drop n c.args.bytes.now) (stands_begins c.args.bytes.now e n s))

pub returns-in_err-moment-clause-only : goal.returns-in_err-moment-clause-only
returns-in_err-moment-clause-only c = λ e n s.
    let is = (c.in_ok-raw.ensures.only e (drop n c.args.bytes.now) (stands_begins c.args.bytes.now e n s)).0 in
    let within : c.in_ok-raw.raw.moment ≤ LAST_MOMENT = omega (arith, s.fits.moment, ap (λ (r : Entry). r.moment) is) in
    absurd (false≢true (c.in_err-moment.ensures.succeeds.1 within))

pub returns-clause-found : goal.returns-clause-found
returns-clause-found c =
    let e : Entry = entry_of c.in_ok-raw.raw in
    let made : ℕ → Entry = λ m. record { serial = e.serial; moment = m; id = e.id; payload = e.payload } in
    let is : c.new-2.result ≡ e = c.new-2.ensures.value ∙ ap made c.in_ok-moment.ensures.value in
    subst (λ (r : Entry). Stands r (24 + length e.payload) c.args.bytes.now) (sym is)
    (begins_stands c.args.bytes.now e c.in_ok-raw.field-0-1.now c.in_ok-raw.ensures.found (c.in_ok-moment.ensures.succeeds.0 refl))

pub returns-clause-only : goal.returns-clause-only
returns-clause-only c = λ e n s.
    let r : Entry = entry_of c.in_ok-raw.raw in
    let made : ℕ → Entry = λ m. record { serial = r.serial; moment = m; id = r.id; payload = r.payload } in
    let same = (c.in_ok-raw.ensures.only e (drop n c.args.bytes.now) (stands_begins c.args.bytes.now e n s)).0 in
    let is : c.new-2.result ≡ e = c.new-2.ensures.value ∙ ap made c.in_ok-moment.ensures.value ∙ same in
    let size : 24 + length r.payload ≡ n = ap (λ (x : Entry). 24 + length x.payload) same ∙ sym s.size in
    same_answer c.new-2.result e (24 + length r.payload) n is size
