use Rattle.std.proofs.Common.{◌≡◌, ◌∙◌, ◌-◌, ◌++◌, ℕ, List, Bor, ap, arith, drop, length, length-drop, map, take}
use Rattle.std.proofs.lemmas.List.{take_all}
use Rattle.tr_lines.specs.Words.{is_space, part_words, words_of}
use Rattle.tr_lines.proofs.WordLemmas.{OnErr-always, OnErr-map, OnOk-map, cut-failed, cut-first, cut-last, cut-last-utf8, cut-on, cut-part, cut-part-utf8, no_space}
use Rattle.tr_lines.proofs.words.push_words.Goals as goal
use Rattle.tr_lines.proofs.words.push_words.Goals.{then-bytes-at-eq32+in_ok-push_part, else-bytes-at-eq32}

abbrev texts : List (Bor (List ℕ)) → List (List ℕ)
texts words = map (λ w. w.now) words

-- what a range leaves of a slice
from : (bytes : List ℕ) (start : ℕ) → take (length bytes - start) (drop start bytes) ≡ drop start bytes
from bytes start = take_all (length bytes - start) (drop start bytes) (omega (arith, length-drop start bytes))

pub bytes-init : goal.bytes-init
bytes-init c = cut-first _ _ c.as_bytes-bytes.ensures.utf8

pub push_part-requires : goal.push_part-requires
push_part-requires c = cut-part-utf8 _ _ _ _ _ c.bytes.invariant c.as_bytes-bytes.ensures.utf8 c.bytes-test.true (ap is_space c.if-bytes-at-eq32.true)

pub returns-in_err-push_part-clause-err : goal.returns-in_err-push_part-clause-err
returns-in_err-push_part-clause-err c = OnErr-always c.from_residual.result (
  length c.bytes.invariant.done,
  ap (λ ws. texts ws.items) c.in_err-push_part.ensures.err ∙ cut-failed _ _ _ _ _ c.bytes.invariant
      ∙ ap (λ t. texts c.args.words.now.items ++ take (length c.bytes.invariant.done) (words_of t)) c.as_bytes-bytes.ensures.value,
)

pub bytes-preserved : goal.bytes-preserved
bytes-preserved c = elim c.if-bytes-at-eq32.branch [
  | then-bytes-at-eq32+in_ok-push_part w ↦ rw (w.words-is, w.start-is) (cut-part _ _ _ _ _ c.bytes.invariant _ c.as_bytes-bytes.ensures.utf8 c.bytes-test.true
      (ap is_space w.if-bytes-at-eq32.true) w.in_ok-push_part.ensures.ok)
  | else-bytes-at-eq32 w ↦ rw (w.words-is, w.start-is) (cut-on _ _ _ _ _ c.bytes.invariant c.bytes-test.true (no_space _ w.if-bytes-at-eq32.false))
]

pub push_part-requires-2 : goal.push_part-requires-2
push_part-requires-2 c =
    let bytes : List ℕ = c.as_bytes-bytes.result.now in
    rw (from bytes c.bytes.start) (cut-last-utf8 _ _ _ _ _ c.bytes.invariant c.as_bytes-bytes.ensures.utf8)

pub returns-clause-ok : goal.returns-clause-ok
returns-clause-ok c =
    let bytes : List ℕ = c.as_bytes-bytes.result.now in
    let old : List (List ℕ) = texts c.args.words.now.items in
    OnOk-map c.push_part-2.result (λ added. cut-last _ _ _ _ _ c.bytes.invariant _ c.bytes-test.false
    (added ∙ ap (λ part. texts c.bytes.words.items ++ part_words part) (from bytes c.bytes.start))
    ∙ ap (λ t. old ++ words_of t) c.as_bytes-bytes.ensures.value) c.push_part-2.ensures.ok

pub returns-clause-err : goal.returns-clause-err
returns-clause-err c = OnErr-map c.push_part-2.result (λ same. (
  length c.bytes.invariant.done,
  ap (λ ws. texts ws.items) same ∙ cut-failed _ _ _ _ _ c.bytes.invariant
      ∙ ap (λ t. texts c.args.words.now.items ++ take (length c.bytes.invariant.done) (words_of t)) c.as_bytes-bytes.ensures.value,
)) c.push_part-2.ensures.err
