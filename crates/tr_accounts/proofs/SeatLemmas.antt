-- What the seats of a stream's journal have, if each noted its own calls.
use Rattle.std.specs.Global.{Global}
use Rattle.std.proofs.Common.{◌≡◌, ◌≢◌, ℕ, Bool, true, false, eqb, List, [], ◌∷◌, ◌++◌, Option, None, ⊎_elim, refl, sym, ap, arith, eq-eqb, ne_eqb, length, subst, cond, filter, nat_lt, ◌∙◌}
use Rattle.std.proofs.lemmas.Bool.Decides.{eqb_tells, nat_tests}
use Rattle.tr_journal.proofs.Wholes.{all-of-among, alone}
use Rattle.tr_journal.specs.Views.{ArePartsOf, all_done, done_by, line}
use Rattle.tr_journal.specs.Whole.{AreAllOf, IsOnlyBy}
use Rattle.tr_journal.specs.declared.rule.Line.{Line}
use Rattle.tr_journal.specs.declared.rule.Part.{Part}
use Rattle.tr_stream.specs.declared.events.StreamAnswer.{StreamAnswer}
use Rattle.tr_stream.specs.declared.events.StreamEvent.{StreamEvent}
use Rattle.tr_stream.specs.declared.events.StreamEvent.TheVariants.{Offer, Take, Cut, Clear, Release, Peek, Start, Stop}
use Rattle.tr_accounts.proofs.Lists.{all-both, all-more}
use Rattle.tr_accounts.specs.Seats.{AreTheirs, HasRole, Offers, Operates, Role, Takes, desk_seat, drainer_parts, is_offer, is_operation, is_take, producer_seat, role_of, steps_of, take_lines}
use Rattle.tr_accounts.specs.StreamSteps.{AcceptedOffer, accepted_in, accepted_of}
use Rattle.tr_accounts.specs.declared.step.StreamStep.{StreamStep}

-- a role that one seat alone has
abbrev IsOf : (Role → Bool) → ℕ → Type 0
IsOf wanted seat = (role : Role) (who : ℕ) → HasRole role who → wanted role ≡ eqb who seat

offers_are : IsOf is_offer producer_seat
offers_are Offers who is = sym (eq-eqb who 0 is)
offers_are Takes who is = sym (ne_eqb who 0 (λ e. omega (arith, is, e)))
offers_are Operates who is = sym (ne_eqb who 0 (λ e. omega (arith, is, e)))

operations_are : IsOf is_operation desk_seat
operations_are Offers who is = sym (ne_eqb who 1 (λ e. omega (arith, is, e)))
operations_are Takes who is = sym (ne_eqb who 1 (λ e. omega (arith, is, e)))
operations_are Operates who is = sym (eq-eqb who 1 is)

-- the steps of that role are what the seat noted
theirs : (wanted : Role → Bool) (seat : ℕ) → IsOf wanted seat → (lines : List (Line StreamStep)) → AreTheirs lines
    → steps_of wanted (all_done lines) ≡ done_by seat lines
theirs wanted seat is [] h = refl
theirs wanted seat is (l ∷ ls) h =
    let same = is (role_of l.done.call) l.who h.0 in
    let rest = theirs wanted seat is ls h.1 in
    ⊎_elim
    (λ (t : (eqb l.who seat ≡ true) × (l.who ≡ seat)). rw (same, t.0) (ap (λ ss. l.done ∷ ss) rest))
    (λ (t : (eqb l.who seat ≡ false) × (l.who ≢ seat)). rw (same, t.0) rest)
    (eqb_tells l.who seat)

pub offers-theirs : (lines : List (Line StreamStep)) → AreTheirs lines → steps_of is_offer (all_done lines) ≡ done_by producer_seat lines
offers-theirs lines h = theirs is_offer producer_seat offers_are lines h

pub operations-theirs : (lines : List (Line StreamStep)) → AreTheirs lines → steps_of is_operation (all_done lines) ≡ done_by desk_seat lines
operations-theirs lines h = theirs is_operation desk_seat operations_are lines h

-- only an offer is an accepted offer
not_accepted : (call : StreamEvent Global) (told : StreamAnswer Global) (who : ℕ) → HasRole (role_of call) who → who ≢ producer_seat → accepted_of call told ≡ None
not_accepted (Offer moment id payload) told who is apart = absurd (apart is)
not_accepted Take told who is apart = refl
not_accepted (Cut moment) told who is apart = refl
not_accepted Clear told who is apart = refl
not_accepted (Release k) told who is apart = refl
not_accepted (Peek moment) told who is apart = refl
not_accepted Start told who is apart = refl
not_accepted Stop told who is apart = refl

pub accepted-theirs : (lines : List (Line StreamStep)) → AreTheirs lines → accepted_in (all_done lines) ≡ accepted_in (done_by producer_seat lines)
accepted-theirs lines h =
    let kind : StreamStep → Option AcceptedOffer = λ step. accepted_of step.call step.answer in
    let only : IsOnlyBy producer_seat kind lines =
    all-more (λ (l : Line StreamStep). HasRole (role_of l.done.call) l.who) (λ (l : Line StreamStep). l.who ≢ producer_seat → kind l.done ≡ None)
    (λ l is apart. not_accepted l.done.call l.done.answer l.who is apart) lines h in
    alone kind producer_seat lines only

pub theirs-push : (lines : List (Line StreamStep)) (who : ℕ) (step : StreamStep) → AreTheirs lines → HasRole (role_of step.call) who
    → AreTheirs (lines ++ line who step ∷ [])
theirs-push lines who step h is = all-both (λ (l : Line StreamStep). HasRole (role_of l.done.call) l.who) lines (line who step ∷ []) h (is, tt)

-- ---- takes

takes_are : (role : Role) (who : ℕ) → HasRole role who → is_take role ≡ nat_lt desk_seat who
takes_are Offers who is = grind (arith, nat_tests, is)
takes_are Takes who is = grind (arith, nat_tests, is)
takes_are Operates who is = grind (arith, nat_tests, is)

takes-theirs : (lines : List (Line StreamStep)) → AreTheirs lines → filter (λ l. nat_lt desk_seat l.who) lines ≡ take_lines lines
takes-theirs [] h = refl
takes-theirs (l ∷ ls) h =
    let rest = takes-theirs ls h.1 in
    let same = takes_are (role_of l.done.call) l.who h.0 in
    ap (λ b. cond b (l ∷ filter (λ k. nat_lt desk_seat k.who) ls) (filter (λ k. nat_lt desk_seat k.who) ls)) (sym same)
    ∙ ap (λ ks. cond (is_take (role_of l.done.call)) (l ∷ ks) ks) rest

-- each take is in one drainer's part, and in one alone
pub takes-all : (made : ℕ) (lines : List (Line StreamStep)) (parts : List (Part StreamStep)) → AreTheirs lines → ArePartsOf made lines parts
    → length parts ≡ made → AreAllOf (take_lines lines) (drainer_parts parts)
takes-all made lines parts each are whole =
    subst (λ ls. AreAllOf ls (drainer_parts parts)) (takes-theirs lines each) (all-of-among (nat_lt desk_seat) made lines parts are whole)
