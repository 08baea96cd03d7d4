-- A step more at a desk.
use Rattle.std.proofs.Common.{◌≡◌, ◌∙◌, ℕ, List, [], ◌∷◌, ◌++◌, refl, subst, sym}
use Rattle.std.proofs.lemmas.List.{map-append}
use Rattle.tr_journal.specs.Journals.{IsSeatOf, JournalState, SeatState}
use Rattle.tr_journal.specs.Views.{all_done, line}
use Rattle.tr_journal.specs.declared.rule.Line.{Line}
use Rattle.tr_operations.specs.Operations.{IsOperatorOf, IsStepOf, LeadsTo}
use Rattle.tr_operations.specs.declared.step.DeskStep.{DeskStep}
use Rattle.tr_session_book.specs.Book.{SessionBookState}

leads-push : (steps : List DeskStep) (step : DeskStep) (b c d : SessionBookState) → LeadsTo steps b c → IsStepOf step c d
    → LeadsTo (steps ++ step ∷ []) b d
leads-push [] step b c d lead is = (d, subst (λ x. IsStepOf step x d) lead is, refl)
leads-push (s ∷ steps) step b c d lead is = (lead.0, lead.1, leads-push steps step lead.0 c d lead.2 is)

pub leads-new : (b : SessionBookState) → LeadsTo [] b b
leads-new b = refl

pub leads-more : (lines : List (Line DeskStep)) (planned before after : SessionBookState) (who : ℕ) (step : DeskStep)
    → LeadsTo (all_done lines) planned before → IsStepOf step before after
    → LeadsTo (all_done (lines ++ line who step ∷ [])) planned after
leads-more lines planned before after who step lead is =
    subst (λ l. LeadsTo l planned after) (sym (map-append (λ (l : Line DeskStep). l.done) lines (line who step ∷ [])))
    (leads-push (all_done lines) step planned before after lead is)

pub operator-of : (journal : JournalState DeskStep) (seat : SeatState DeskStep) (planned book : SessionBookState)
    → LeadsTo (all_done journal.lines) planned book → IsSeatOf journal seat → IsOperatorOf planned seat.own book
operator-of journal seat planned book lead own = record { lines = journal.lines; leads = lead; who = seat.who; own = own.each.0.1 }
