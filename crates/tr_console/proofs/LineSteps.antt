-- The answers to lines: one more line, or some more lines.
use Rattle.std.proofs.Common.{◌≡◌, ◌∙◌, ◌≤◌, ◌+◌, ℕ, Bool, cond, true, false, refl, sym, ap, arith, List, [], ◌∷◌, ◌++◌, append_assoc, append-nil}
use Rattle.tr_console.specs.World.{World}
use Rattle.tr_console.specs.Script.{answers, line_step, refused_in, text_step, world_after}
use Rattle.tr_console.specs.Steps.{Step, skipped_step}
use Rattle.tr_lines.specs.Lines.{text_of_line, with_last}
use Rattle.tr_stream.specs.Rules.{StreamRules}

abbrev pub one_if : Bool → ℕ
one_if b = cond b 1 0

pub one_if-le : (b : Bool) → one_if b ≤ 1
one_if-le true = omega arith
one_if-le false = omega arith

-- ---- one more line

pub answers-push : {S : Type 0} → (rules : StreamRules S) (w : World S) (lines : List (List ℕ)) (line : List ℕ)
    → answers rules w (lines ++ line ∷ []) ≡ answers rules w lines ++ (line_step rules (world_after rules w lines) line).text
answers-push rules w [] line = append-nil (line_step rules w line).text
answers-push rules w (first ∷ lines) line =
    ap (λ t. (line_step rules w first).text ++ t) (answers-push rules (line_step rules w first).world lines line)
    ∙ sym (append_assoc (line_step rules w first).text (answers rules (line_step rules w first).world lines) _)

pub world_after-push : {S : Type 0} → (rules : StreamRules S) (w : World S) (lines : List (List ℕ)) (line : List ℕ)
    → world_after rules w (lines ++ line ∷ []) ≡ (line_step rules (world_after rules w lines) line).world
world_after-push rules w [] line = refl
world_after-push rules w (first ∷ lines) line = world_after-push rules (line_step rules w first).world lines line

pub refused_in-push : {S : Type 0} → (rules : StreamRules S) (w : World S) (lines : List (List ℕ)) (line : List ℕ)
    → refused_in rules w (lines ++ line ∷ []) ≡ refused_in rules w lines + one_if (line_step rules (world_after rules w lines) line).is_refused
refused_in-push rules w [] line = omega arith
refused_in-push rules w (first ∷ lines) line = omega (arith, refused_in-push rules (line_step rules w first).world lines line)

-- ---- some more lines

pub answers-append : {S : Type 0} → (rules : StreamRules S) (w : World S) (a b : List (List ℕ))
    → answers rules w (a ++ b) ≡ answers rules w a ++ answers rules (world_after rules w a) b
answers-append rules w [] b = refl
answers-append rules w (first ∷ a) b =
    ap (λ t. (line_step rules w first).text ++ t) (answers-append rules (line_step rules w first).world a b)
    ∙ sym (append_assoc (line_step rules w first).text (answers rules (line_step rules w first).world a) _)

pub refused_in-append : {S : Type 0} → (rules : StreamRules S) (w : World S) (a b : List (List ℕ))
    → refused_in rules w (a ++ b) ≡ refused_in rules w a + refused_in rules (world_after rules w a) b
refused_in-append rules w [] b = omega arith
refused_in-append rules w (first ∷ a) b = omega (arith, refused_in-append rules (line_step rules w first).world a b)

pub world_after-append : {S : Type 0} → (rules : StreamRules S) (w : World S) (a b : List (List ℕ))
    → world_after rules w (a ++ b) ≡ world_after rules (world_after rules w a) b
world_after-append rules w [] b = refl
world_after-append rules w (first ∷ a) b = world_after-append rules (line_step rules w first).world a b

-- ---- a line

pub line_step-text : {S : Type 0} → (rules : StreamRules S) (w : World S) (line : List ℕ)
    → text_step rules w (text_of_line line) ≡ line_step rules w line
unfolding line_step
line_step-text rules w line = refl

-- an empty line is skipped, so it doesn't matter whether there is a last one
pub line_step-empty : {S : Type 0} → (rules : StreamRules S) (w : World S) → line_step rules w [] ≡ skipped_step w
unfolding line_step
line_step-empty rules w = refl

pub answers-last : {S : Type 0} → (rules : StreamRules S) (w : World S) (line : List ℕ)
    → answers rules w (line ∷ []) ≡ answers rules w (with_last line)
answers-last rules w [] = ap (λ (s : Step _). s.text ++ []) (line_step-empty rules w)
answers-last rules w (b ∷ line) = refl

pub refused_in-last : {S : Type 0} → (rules : StreamRules S) (w : World S) (line : List ℕ)
    → refused_in rules w (line ∷ []) ≡ refused_in rules w (with_last line)
refused_in-last rules w [] = ap (λ (s : Step _). one_if s.is_refused + 0) (line_step-empty rules w)
refused_in-last rules w (b ∷ line) = refl

pub world_after-last : {S : Type 0} → (rules : StreamRules S) (w : World S) (line : List ℕ)
    → world_after rules w (line ∷ []) ≡ world_after rules w (with_last line)
world_after-last rules w [] = ap (λ (s : Step _). s.world) (line_step-empty rules w)
world_after-last rules w (b ∷ line) = refl
