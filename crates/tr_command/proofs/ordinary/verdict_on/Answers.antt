use Rattle.std.proofs.Common.{◌≡◌, ◌∙◌, ◌++◌, ◌∷◌, [], refl, ◌-◌, ◌≤◌, ℕ, List, ap, arith, drop, false, length, length-drop, map, sym, take}
use Rattle.std.proofs.lemmas.List.{drop_all, drop-drop, map-append, take_all}
use Rattle.std.specs.Borrow.{Bor}
use Rattle.clap.specs.Walk.{Text, has_row}
use Rattle.tr_command.specs.Ordinary.{row_of_use}
use Rattle.tr_command.specs.declared.uses.Use.{Use}
use Rattle.tr_command.proofs.OrdinaryLemmas.{comes_to-as, comes_to-first, taken-last}
use Rattle.tr_command.proofs.RefusedLemmas.{refused-at, refused-wanted}
use Rattle.tr_command.proofs.ordinary.verdict_on.Goals as goal

abbrev texts : List (Bor Text) → List Text
texts words = map (λ w. w.now) words

-- what a range leaves of a slice
from : (words : List (Bor Text)) (at : ℕ) → take (length words - at) (drop at words) ≡ drop at words
from words at = take_all (length words - at) (drop at words) (omega (arith, length-drop at words))

pub words-init : goal.words-init
words-init c = (omega arith, λ name. rw c.requires.empty (comes_to-first name c.args.arguments.now (texts c.args.words.now)))

pub words-preserved : goal.words-preserved
words-preserved c =
    let words : List (Bor Text) = c.args.words.now in
    let uses : List Use = c.words.uses.items in
    let part = from words c.words.at in
    let fits : c.in_ok-next.next.count ≤ length (drop c.words.at words) = rw part at c.in_ok-next.ensures.some.1 in
    let free : has_row (row_of_use c.in_ok-next.next.used).id (map row_of_use uses) ≡ false =
    rw (← c.name.ensures, ← c.as_slice.ensures.value) (sym c.is_used.ensures ∙ c.if-is_used.false) in
    let more : map row_of_use uses ++ row_of_use c.in_ok-next.next.used ∷ [] ≡ map row_of_use c.push.new.self.items =
    sym (ap (map row_of_use) c.push.ensures.items ∙ map-append row_of_use uses (c.in_ok-next.next.used ∷ [])) in (
      omega (arith, fits, length-drop c.words.at words),
      λ name. comes_to-as name c.args.arguments.now (texts words) _ _ c.in_ok-next.next.places.now _ _ more
          (ap (λ xs. texts (drop c.in_ok-next.next.count xs)) part ∙ ap texts (drop-drop c.in_ok-next.next.count c.words.at words))
          (c.in_ok-next.ensures.next name (texts words) (map row_of_use uses) c.requires.named free
          (comes_to-as name c.args.arguments.now (texts words) _ _ c.words.places.now _ _ refl (ap texts (sym part)) (c.words.invariant.1 name))),
    )

pub returns-then-is_stray : goal.returns-then-is_stray
returns-then-is_stray c name =
    let stray = c.is_stray.ensures c.if-is_stray.true in
    refused-at name c.args.arguments.now (texts c.args.words.now) c.requires.named (map row_of_use c.words.uses.items) c.words.places.now c.args.words.now c.words.at _
    c.words-test.true (c.words.invariant.1 name) stray.0 stray.1

pub returns-then-wants_place : goal.returns-then-wants_place
returns-then-wants_place c name =
    let wanted = rw c.as_slice-2.ensures.value at (c.wants_place.ensures c.if-wants_place.true) in
    refused-wanted name c.args.arguments.now (texts c.args.words.now) (map row_of_use c.words.uses.items) c.words.places.now wanted
    (comes_to-as name c.args.arguments.now (texts c.args.words.now) _ _ c.words.places.now _ [] refl
    (ap texts (drop_all c.words.at c.args.words.now c.words-test.false)) (c.words.invariant.1 name))

pub returns : goal.returns
returns c name =
    let left = c.add_left_out.ensures c.if-not-add_left_out.false in
    taken-last name c.args.arguments.now (texts c.args.words.now) (map row_of_use c.words.uses.items) _ c.words.places.now
    (comes_to-as name c.args.arguments.now (texts c.args.words.now) _ _ c.words.places.now _ [] refl
    (ap texts (drop_all c.words.at c.args.words.now c.words-test.false)) (c.words.invariant.1 name)) left.0 left.1
