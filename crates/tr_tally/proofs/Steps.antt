-- Each kind of step keeps the rule of a tally.
use Rattle.std.proofs.Common.{◌≡◌, ◌≢◌, ℕ, zero, suc, ◌+◌, ◌<◌, ◌≤◌, ◌⊎◌, inl, inr, ⊎_elim, List, [], ◌∷◌, ◌++◌, length, set, replicate, max, true, false, leb, refl, sym, ap, ◌∙◌, subst, arith, get_or-set_other, get_or-set_same}
use Rattle.std.specs.Prelude.{slice_index}
use Rattle.std.proofs.lemmas.Bool.Decides.{leb_tells}
use Rattle.std.proofs.lemmas.List.{length-replicate, set-get_or}
use Rattle.std.proofs.lemmas.List.Sorted.{IsNonDecreasingBy-short}
use Rattle.atomic_table.proofs.Lists.{at_set}
use mathlib.Core.Option.{some, some-injective, some-ne-none}
use lib.ListN.{get_elem?}
use Rattle.tr_tally.specs.declared.rule.Asked.{Asked}
use Rattle.tr_tally.specs.declared.rule.View.{View}
use Rattle.tr_tally.specs.declared.rule.View.TheVariants.{Opener, Teller, Watcher, Note, Compared, Spent}
use Rattle.tr_tally.specs.Views.{Fits, IsAmong, IsPublished, IsTold, Rise, answer_of, answers_in, compared_view, last_of, new_watcher, next_teller, note_of, note_view, opener_view, teller_view, watcher_view, with_answer, with_answer_beside, with_count, with_note, with_teller, without_answer, stream_at, word_of, words_for}
use Rattle.tr_tally.proofs.CountLemmas.{among-last, among-push, at-each, changed, changed-else, changed-here, last-among, last_of-push, rise-push, zero-among}
use Rattle.tr_tally.proofs.WordLemmas.{stream_at-word_of}

-- ---- views of which one is changed or new

at-end : {A : Type 0} → (l : List A) (a b : A) (j : ℕ) → get_elem? (l ++ a ∷ []) j ≡ some b
    → (get_elem? l j ≡ some b) ⊎ ((j ≡ length l) × (a ≡ b))
at-end [] a b zero e = inr (refl, some-injective a b e)
at-end [] a b (suc j) e = absurd (some-ne-none b (sym e))
at-end (x ∷ xs) a b zero e = inl e
at-end (x ∷ xs) a b (suc j) e = ⊎_elim (λ t. inl t) (λ t. inr (ap suc t.0, t.1)) (at-end xs a b j e)

-- what these counts, by these tellers, say of each view
module _ (counts : ℕ → List ℕ) (teller : ℕ → ℕ) (views : List View) where
  abbrev AllFit : List View → Type 0
  AllFit all = (at : ℕ) (v : View) → get_elem? all at ≡ some v → Fits counts teller at v

  moved : (at at' : ℕ) (v v' : View) → at ≡ at' → v ≡ v' → Fits counts teller at v → Fits counts teller at' v'
  moved at at' v v' here same = subst (λ (y : ℕ × View). Fits counts teller y.0 y.1) (λ i. (here i, same i))

  set-fits : (id : ℕ) (w : View) → ((at : ℕ) (v : View) → at ≢ id → get_elem? views at ≡ some v → Fits counts teller at v)
      → Fits counts teller id w → AllFit (set views id w)
  set-fits id w others mine at v e =
      ⊎_elim
      (λ (t : (at ≡ id) × (w ≡ v)). moved id at w v (sym t.0) t.1 mine)
      (λ (t : (at ≢ id) × (get_elem? views at ≡ some v)). others at v t.0 t.1)
      (at_set views id at w v e)

  push-fits : (w : View) → AllFit views → Fits counts teller (length views) w → AllFit (views ++ w ∷ [])
  push-fits w others mine at v e =
      ⊎_elim
      (λ was. others at v was)
      (λ (t : (at ≡ length views) × (w ≡ v)). moved (length views) at w v (sym t.0) t.1 mine)
      (at-end views w v at e)

-- ---- the rule at the beginning

pub begins : (asked : Asked) → IsTold asked (replicate (words_for asked) 0) (opener_view 0 asked.streams ∷ [])
begins asked = record {
  long = length-replicate (words_for asked) 0;
  counts = λ _. [];
  teller = λ _. 0;
  rising = λ i. IsNonDecreasingBy-short (λ x. x) (0 ∷ []) (omega arith);
  words_are = λ watched i lt. zeros (words_for asked) (word_of i);
  each = one;
}
  where
    zeros : (n i : ℕ) → slice_index (replicate n 0) i ≡ 0
    zeros zero i = refl
    zeros (suc n) zero = refl
    zeros (suc n) (suc i) = zeros n i

    one : (at : ℕ) (v : View) → get_elem? (opener_view 0 asked.streams ∷ []) at ≡ some v → Fits (λ _. []) (λ _. 0) at v
    one zero v e = subst (Fits (λ _. []) (λ _. 0) 0) (some-injective _ _ e) (λ i _ _. (refl, refl))
    one (suc at) v e = absurd (some-ne-none v (sym e))

-- ---- the steps, of the token at a place, whose view is known

module _ (asked : Asked) (words : List ℕ) (views : List View) (h : IsTold asked words views) (id : ℕ) where
  -- nothing is published: the words and the counts stay
  stays : (after : List View) → ((at : ℕ) (v : View) → get_elem? after at ≡ some v → Fits h.counts h.teller at v)
      → IsTold asked words after
  stays after each = record {
    long = h.long;
    counts = h.counts;
    teller = h.teller;
    rising = h.rising;
    words_are = h.words_are;
    each = each;
  }

  -- a token that no stream is known by comes, and the one that it is split from stays
  comes : (v w : View) → get_elem? views id ≡ some v → ((at : ℕ) → Fits h.counts h.teller at w)
      → IsTold asked words (set views id v ++ w ∷ [])
  comes v w at fits =
      let mid = set views id v in
      stays (mid ++ w ∷ []) (push-fits h.counts h.teller mid w
      (set-fits h.counts h.teller views id v (λ a u _ e. h.each a u e) (h.each id v at)) (fits (length mid)))

  -- the next stream gets its teller
  makes : (made streams : ℕ) → made < streams → get_elem? views id ≡ some (opener_view made streams)
      → IsTold asked words (set views id (opener_view (made + 1) streams) ++ teller_view made [] ∷ [])
  makes made streams lt at =
      let left = opener_view (made + 1) streams in
      let mid = set views id left in
      let mine = h.each id (opener_view made streams) at in
      let here = mine made (omega arith) lt in
      let now = changed h.teller made (length mid) in
      record {
        long = h.long;
        counts = h.counts;
        teller = now;
        rising = h.rising;
        words_are = h.words_are;
        each = push-fits h.counts now mid (teller_view made [])
            (set-fits h.counts now views id left (λ a u apart e. other (length mid) here.0 a u apart (h.each a u e))
            (λ j low high.
            let ne : j ≢ made = λ e. omega (arith, e, low) in
            let known = mine j (omega arith) high in
            (changed-else h.teller made j (length mid) ne ∙ known.0, known.1)))
            (changed-here h.teller made (length mid), here.1);
      }
    where
      other : (next : ℕ) → h.teller made ≡ id → (a : ℕ) (u : View) → a ≢ id → Fits h.counts h.teller a u
          → Fits h.counts (changed h.teller made next) a u
      other next here a (Opener from to) apart fits = λ j low high.
          let known = fits j low high in
          let ne : j ≢ made = λ e. apart (sym known.0 ∙ ap h.teller e ∙ here) in
          (changed-else h.teller made j next ne ∙ known.0, known.1)
      other next here a (Teller stream counts) apart fits =
          let ne : stream ≢ made = λ e. apart (sym fits.0 ∙ ap h.teller e ∙ here) in
          (changed-else h.teller made stream next ne ∙ fits.0, fits.1)
      other next here a (Watcher answers) apart fits = fits
      other next here a (Note stream count) apart fits = fits
      other next here a (Compared stream counts answer) apart fits =
          let ne : stream ≢ made = λ e. apart (sym fits.0 ∙ ap h.teller e ∙ here) in
          (changed-else h.teller made stream next ne ∙ fits.0, fits.1, fits.2)
      other next here a Spent apart fits = tt

  -- a watcher comes
  watches : (made streams : ℕ) → get_elem? views id ≡ some (opener_view made streams)
      → IsTold asked words (set views id (opener_view made streams) ++ watcher_view (replicate streams 0) ∷ [])
  watches made streams at =
      comes (opener_view made streams) (watcher_view (replicate streams 0)) at (λ _ i. zeros streams i (h.counts i))
    where
      zeros : (n i : ℕ) (counts : List ℕ) → IsAmong (slice_index (replicate n 0) i) counts
      zeros zero i counts = zero-among counts
      zeros (suc n) zero counts = zero-among counts
      zeros (suc n) (suc i) counts = zeros n i counts

  -- a note of a teller's last count comes
  notes : (stream : ℕ) (counts : List ℕ) → get_elem? views id ≡ some (teller_view stream counts)
      → IsTold asked words (set views id (teller_view stream counts) ++ note_view stream (last_of counts) ∷ [])
  notes stream counts at =
      let mine = h.each id (teller_view stream counts) at in
      comes (teller_view stream counts) (note_view stream (last_of counts)) at
      (λ _. subst (IsAmong (last_of counts)) (sym mine.1) (last-among counts))

  -- a teller publishes a count, and then the words are these
  publishes : (stream n : ℕ) (published after : List ℕ) → last_of published ≤ n
      → get_elem? views id ≡ some (teller_view stream published)
      → length after ≡ length words
      → (0 < asked.watchers → slice_index after (word_of stream) ≡ n)
      → (0 < asked.watchers → (j : ℕ) → j ≢ stream → j < asked.streams → slice_index after (word_of j) ≡ slice_index words (word_of j))
      → IsTold asked after (set views id (teller_view stream (published ++ n ∷ [])))
  publishes stream n published after up at long here others =
      let mine = h.each id (teller_view stream published) at in
      let more = published ++ n ∷ [] in
      let now = changed h.counts stream more in
      let now_here : now stream ≡ more = changed-here h.counts stream more in
      record {
        long = long ∙ h.long;
        counts = now;
        teller = h.teller;
        rising = at-each (λ j. Rise (now j)) stream (subst Rise (sym now_here) (rise-push published n (subst Rise mine.1 (h.rising stream)) up))
            (λ j ne. subst Rise (sym (changed-else h.counts stream j more ne)) (h.rising j));
        words_are = λ watched. at-each (λ j. j < asked.streams → slice_index after (word_of j) ≡ last_of (now j)) stream
            (λ lt. here watched ∙ sym (ap last_of now_here ∙ last_of-push published n))
            (λ j ne lt. others watched j ne lt ∙ h.words_are watched j lt ∙ ap last_of (sym (changed-else h.counts stream j more ne)));
        each = set-fits now h.teller views id (teller_view stream more)
            (λ a u apart e. other mine.0 mine.1 a u apart (h.each a u e)) (mine.0, now_here);
      }
    where
      still : h.counts stream ≡ published → (count j : ℕ) → IsAmong count (h.counts j)
          → IsAmong count (changed h.counts stream (published ++ n ∷ []) j)
      still is count =
          at-each (λ j. IsAmong count (h.counts j) → IsAmong count (changed h.counts stream (published ++ n ∷ []) j)) stream
          (λ among. subst (IsAmong count) (sym (changed-here h.counts stream (published ++ n ∷ [])))
          (among-push count published n (subst (IsAmong count) is among)))
          (λ j ne among. subst (IsAmong count) (sym (changed-else h.counts stream j (published ++ n ∷ []) ne)) among)

      other : h.teller stream ≡ id → h.counts stream ≡ published → (a : ℕ) (u : View) → a ≢ id → Fits h.counts h.teller a u
          → Fits (changed h.counts stream (published ++ n ∷ [])) h.teller a u
      other here is a (Opener from to) apart fits = λ j low high.
          let known = fits j low high in
          let ne : j ≢ stream = λ e. apart (sym known.0 ∙ ap h.teller e ∙ here) in
          (known.0, changed-else h.counts stream j (published ++ n ∷ []) ne ∙ known.1)
      other here is a (Teller of counts) apart fits =
          let ne : of ≢ stream = λ e. apart (sym fits.0 ∙ ap h.teller e ∙ here) in
          (fits.0, changed-else h.counts stream of (published ++ n ∷ []) ne ∙ fits.1)
      other here is a (Watcher answers) apart fits = λ j. still is (slice_index answers j) j (fits j)
      other here is a (Note of count) apart fits = still is count of fits
      other here is a (Compared of counts answer) apart fits =
          let ne : of ≢ stream = λ e. apart (sym fits.0 ∙ ap h.teller e ∙ here) in
          (fits.0, changed-else h.counts stream of (published ++ n ∷ []) ne ∙ fits.1, still is answer of fits.2)
      other here is a Spent apart fits = tt

  -- an answer that was published fits a watcher
  answers-fit : (answers : List ℕ) (stream n at : ℕ) → stream < length answers → IsAmong n (h.counts stream)
      → Fits h.counts h.teller at (watcher_view answers) → Fits h.counts h.teller at (watcher_view (set answers stream n))
  answers-fit answers stream n at lt among fits =
      at-each (λ j. IsAmong (slice_index (set answers stream n) j) (h.counts j)) stream
      (subst (λ x. IsAmong x (h.counts stream)) (sym (get_or-set_same answers stream n 0 lt)) among)
      (λ j ne. subst (λ x. IsAmong x (h.counts j)) (sym (get_or-set_other answers stream j n 0 ne)) (fits j))

  -- a watcher reads a word
  reads : (answers : List ℕ) (stream : ℕ) → 0 < asked.watchers → stream < asked.streams → length answers ≡ asked.streams
      → get_elem? views id ≡ some (watcher_view answers)
      → IsTold asked words (set views id (watcher_view (set answers stream (slice_index words (word_of stream)))))
      × (slice_index answers stream ≤ slice_index words (word_of stream))
  reads answers stream watched lt wide at =
      let n = slice_index words (word_of stream) in
      let mine = h.each id (watcher_view answers) at in
      let is : n ≡ last_of (h.counts stream) = h.words_are watched stream lt in
      let among : IsAmong n (h.counts stream) = subst (λ x. IsAmong x (h.counts stream)) (sym is) (last-among (h.counts stream)) in
      let within : stream < length answers = omega arith in (
        stays (set views id (watcher_view (set answers stream n)))
            (set-fits h.counts h.teller views id (watcher_view (set answers stream n)) (λ a u _ e. h.each a u e)
            (answers-fit answers stream n id within among mine)),
        subst (λ m. slice_index answers stream ≤ m) (sym is)
            (among-last (slice_index answers stream) (h.counts stream) (h.rising stream) (mine stream)),
      )

  -- a note is joined to a watcher, and is spent
  joins : (answers : List ℕ) (stream count other : ℕ) → stream < length answers → get_elem? views id ≡ some (watcher_view answers)
      → other ≢ id
      → get_elem? (set views id (with_note (watcher_view answers) (note_view stream count))) other ≡ some (note_view stream count)
      → IsTold asked words (set (set views id (with_note (watcher_view answers) (note_view stream count))) other Spent)
  joins answers stream count other lt at apart there =
      let both = with_note (watcher_view answers) (note_view stream count) in
      let mid = set views id both in
      let was = ⊎_elim
      (λ (t : (other ≡ id) × (both ≡ note_view stream count)). absurd (apart t.0))
      (λ (t : (other ≢ id) × (get_elem? views other ≡ some (note_view stream count))). t.1)
      (at_set views id other both (note_view stream count) there) in
      let mine = h.each id (watcher_view answers) at in
      let among = larger (slice_index answers stream) count (h.counts stream) (mine stream) (h.each other (note_view stream count) was) in
      stays (set mid other Spent)
      (set-fits h.counts h.teller mid other Spent
      (λ a u _ e. set-fits h.counts h.teller views id both (λ b v _ e'. h.each b v e')
      (answers-fit answers stream (max (slice_index answers stream) count) id lt among mine) a u e)
      tt)
    where
      larger : (x y : ℕ) (counts : List ℕ) → IsAmong x counts → IsAmong y counts → IsAmong (max x y) counts
      larger x y counts a b =
          ⊎_elim
          (λ (t : (leb x y ≡ true) × (x ≤ y)). let le = t.1 in let e : y ≡ max x y = omega (arith, le) in subst (λ m. IsAmong m counts) e b)
          (λ (t : (leb x y ≡ false) × (y < x)). let lt' = t.1 in let e : x ≡ max x y = omega (arith, lt') in subst (λ m. IsAmong m counts) e a)
          (leb_tells x y)

  -- a note of a watcher's last answer for a stream comes
  parts : (answers : List ℕ) (stream : ℕ) → get_elem? views id ≡ some (watcher_view answers)
      → IsTold asked words (set views id (watcher_view answers) ++ note_view stream (slice_index answers stream) ∷ [])
  parts answers stream at =
      let mine = h.each id (watcher_view answers) at in
      comes (watcher_view answers) (note_view stream (slice_index answers stream)) at (λ _. mine stream)

  -- an answer comes to its stream's teller, and its own token is spent
  compares : (stream answer other : ℕ) (published : List ℕ) → get_elem? views id ≡ some (teller_view stream published)
      → other ≢ id
      → get_elem? (set views id (compared_view stream published answer)) other ≡ some (note_view stream answer)
      → IsTold asked words (set (set views id (compared_view stream published answer)) other Spent)
  compares stream answer other published at apart there =
      let both = compared_view stream published answer in
      let mid = set views id both in
      let was = ⊎_elim
      (λ (t : (other ≡ id) × (both ≡ note_view stream answer)). absurd (apart t.0))
      (λ (t : (other ≢ id) × (get_elem? views other ≡ some (note_view stream answer))). t.1)
      (at_set views id other both (note_view stream answer) there) in
      let mine = h.each id (teller_view stream published) at in
      stays (set mid other Spent)
      (set-fits h.counts h.teller mid other Spent
      (λ a u _ e. set-fits h.counts h.teller views id both (λ b v _ e'. h.each b v e')
      (mine.0, mine.1, h.each other (note_view stream answer) was) a u e)
      tt)

  -- a teller that has an answer beside its counts has it no more, and it is no more than their last
  compared : (stream answer : ℕ) (published : List ℕ) → get_elem? views id ≡ some (compared_view stream published answer)
      → IsTold asked words (set views id (teller_view stream published)) × (answer ≤ last_of published)
  compared stream answer published at =
      let mine = h.each id (compared_view stream published answer) at in (
        stays (set views id (teller_view stream published))
            (set-fits h.counts h.teller views id (teller_view stream published) (λ a u _ e. h.each a u e) (mine.0, mine.1)),
        subst (λ counts. answer ≤ last_of counts) mine.1 (among-last answer (h.counts stream) (h.rising stream) mine.2),
      )

-- ---- the same, of a token whose view is known by an equation

module _ (asked : Asked) (words : List ℕ) (views : List View) (h : IsTold asked words views) (id : ℕ) (v : View)
    (at : get_elem? views id ≡ some v) where
  pub makes-as : (made streams : ℕ) → v ≡ opener_view made streams → made < streams
      → IsTold asked words (set views id (with_teller v) ++ next_teller v ∷ [])
  makes-as made streams is lt =
      subst (λ u. IsTold asked words (set views id (with_teller u) ++ next_teller u ∷ [])) (sym is)
      (makes asked words views h id made streams lt (at ∙ ap (λ (u : View). some u) is))

  pub watches-as : (made streams : ℕ) → v ≡ opener_view made streams → IsTold asked words (set views id v ++ new_watcher v ∷ [])
  watches-as made streams is =
      subst (λ u. IsTold asked words (set views id u ++ new_watcher u ∷ [])) (sym is)
      (watches asked words views h id made streams (at ∙ ap (λ (u : View). some u) is))

  pub notes-as : (stream : ℕ) (counts : List ℕ) → v ≡ teller_view stream counts
      → IsTold asked words (set views id v ++ note_of v ∷ [])
  notes-as stream counts is =
      subst (λ u. IsTold asked words (set views id u ++ note_of u ∷ [])) (sym is)
      (notes asked words views h id stream counts (at ∙ ap (λ (u : View). some u) is))

  pub publishes-as : (stream n : ℕ) (published after : List ℕ) → v ≡ teller_view stream published → last_of published ≤ n
      → length after ≡ length words
      → (0 < asked.watchers → slice_index after (word_of stream) ≡ n)
      → (0 < asked.watchers → (j : ℕ) → j ≢ stream → j < asked.streams → slice_index after (word_of j) ≡ slice_index words (word_of j))
      → IsTold asked after (set views id (with_count n v))
  publishes-as stream n published after is up long here others =
      subst (λ u. IsTold asked after (set views id (with_count n u))) (sym is)
      (publishes asked words views h id stream n published after up (at ∙ ap (λ (u : View). some u) is) long here others)

  -- the last count is published again by a load, which leaves the words as they are
  pub lists-as : (stream n : ℕ) (published : List ℕ) → v ≡ teller_view stream published → last_of published ≤ n
      → (0 < asked.watchers → (last_of published ≡ n) × (stream < asked.streams))
      → IsTold asked (set words 0 (slice_index words 0)) (set views id (with_count n v))
  lists-as stream n published is up last =
      let mine = subst (Fits h.counts h.teller id) is (h.each id v at) in
      subst (λ ws. IsTold asked ws (set views id (with_count n v))) (sym (set-get_or words 0 0))
      (publishes-as stream n published words is up refl
      (λ watched. h.words_are watched stream (last watched).1 ∙ ap last_of mine.1 ∙ (last watched).0)
      (λ _ _ _ _. refl))

  -- where the words are as a load leaves them
  pub reads-as : (answers : List ℕ) (stream : ℕ) → v ≡ watcher_view answers → 0 < asked.watchers → stream < asked.streams
      → length answers ≡ asked.streams
      → IsTold asked (set words (word_of stream) (slice_index words (word_of stream)))
      (set views id (with_answer (stream_at (word_of stream)) (slice_index words (word_of stream)) v))
      × (slice_index (answers_in v) (stream_at (word_of stream)) ≤ slice_index words (word_of stream))
  reads-as answers stream is watched lt wide =
      let n = slice_index words (word_of stream) in
      let known = reads asked words views h id answers stream watched lt wide (at ∙ ap (λ (u : View). some u) is) in
      let place = sym (stream_at-word_of stream) in (
        subst (λ ws. IsTold asked ws (set views id (with_answer (stream_at (word_of stream)) n v)))
            (sym (set-get_or words (word_of stream) 0))
            (subst (λ (y : ℕ × View). IsTold asked words (set views id (with_answer y.0 n y.1)))
            (λ k. (place k, sym is k)) known.0),
        subst (λ (y : ℕ × View). slice_index (answers_in y.1) y.0 ≤ n) (λ k. (place k, sym is k)) known.1,
      )

  pub joins-as : (answers : List ℕ) (stream count other : ℕ) (w : View) → v ≡ watcher_view answers → w ≡ note_view stream count
      → stream < length answers → other ≢ id → get_elem? (set views id (with_note v w)) other ≡ some w
      → IsTold asked words (set (set views id (with_note v w)) other Spent)
  joins-as answers stream count other w is is_note lt apart there =
      let both : with_note v w ≡ with_note (watcher_view answers) (note_view stream count) = λ k. with_note (is k) (is_note k) in
      subst (λ u. IsTold asked words (set (set views id u) other Spent)) (sym both)
      (joins asked words views h id answers stream count other lt (at ∙ ap (λ (u : View). some u) is) apart
      (subst (λ u. get_elem? (set views id u) other ≡ some (note_view stream count)) both (there ∙ ap (λ (u : View). some u) is_note)))

  pub parts-as : (answers : List ℕ) (stream : ℕ) → v ≡ watcher_view answers
      → IsTold asked words (set views id v ++ answer_of stream v ∷ [])
  parts-as answers stream is =
      subst (λ u. IsTold asked words (set views id u ++ answer_of stream u ∷ [])) (sym is)
      (parts asked words views h id answers stream (at ∙ ap (λ (u : View). some u) is))

  pub compares-as : (stream answer other : ℕ) (published : List ℕ) (w : View) → v ≡ teller_view stream published
      → w ≡ note_view stream answer → other ≢ id → get_elem? (set views id (with_answer_beside v w)) other ≡ some w
      → IsTold asked words (set (set views id (with_answer_beside v w)) other Spent)
  compares-as stream answer other published w is is_note apart there =
      let both : with_answer_beside v w ≡ compared_view stream published answer = λ k. with_answer_beside (is k) (is_note k) in
      subst (λ u. IsTold asked words (set (set views id u) other Spent)) (sym both)
      (compares asked words views h id stream answer other published (at ∙ ap (λ (u : View). some u) is) apart
      (subst (λ u. get_elem? (set views id u) other ≡ some (note_view stream answer)) both (there ∙ ap (λ (u : View). some u) is_note)))

  -- where the words are as a load leaves them
  pub compared-as : (stream answer : ℕ) (published : List ℕ) → v ≡ compared_view stream published answer
      → IsTold asked (set words 0 (slice_index words 0)) (set views id (without_answer v)) × IsPublished v
  compared-as stream answer published is =
      let known = compared asked words views h id stream answer published (at ∙ ap (λ (u : View). some u) is) in (
        subst (λ ws. IsTold asked ws (set views id (without_answer v))) (sym (set-get_or words 0 0))
            (subst (λ u. IsTold asked words (set views id (without_answer u))) (sym is) known.0),
        subst IsPublished (sym is) known.1,
      )
