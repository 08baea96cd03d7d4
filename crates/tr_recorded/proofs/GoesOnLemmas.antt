-- A chunk that was closed keeps what it has, whatever is called.
use Rattle.std.proofs.Common.{◌≡◌, ◌∙◌, ◌<◌, ◌+◌, ℕ, false, cond, eqb, max, refl, ap, arith, List, [], ◌∷◌, ◌++◌, length, Option, Some, None}
use Rattle.std.proofs.lemmas.Bool.Decides.{nat_tests}
use Rattle.std.proofs.lemmas.List.{append-nil}
use Rattle.tr_record.specs.Records.{Entry}
use Rattle.tr_recorded.specs.Written.{GoesOn}
use Rattle.tr_stream.proofs.ChunkLemmas.{buffers_where-push, other-keep_waiting, other-settle_first}
use Rattle.tr_stream.proofs.ClearLemmas.{buffers-cleared, other-cleared}
use Rattle.tr_stream.proofs.Refinement.{kept_in}
use Rattle.tr_stream.specs.Chunks.{buffer_of, buffers_where}
use Rattle.tr_stream.specs.History.{Closed, Dropped, History, Kept, Waiting, discarded_in, is_kept_in}
use Rattle.tr_stream.specs.Steps.{Course, DiscardNewest, Follow, Join, Refuse, Replace, after_course, clear_all, close_filling, course_of, follow_filling, history_after_clear, history_after_cut, history_after_offer, history_after_release, history_after_take, history_clear_ring, history_cut_ring, history_entry, history_release_refusal, keep_all, keep_oldest, release_chunk_unless, settle_first}
use Rattle.tr_stream.specs.declared.answers.ReleaseFault.{ReleaseFault}
use Rattle.tr_stream.specs.declared.config.StreamConfig.{StreamConfig}
use Rattle.tr_terms.specs.SessionModes.{by_session_mode}
use Rattle.tr_terms.specs.declared.session_mode.SessionMode.{SessionMode}
use Rattle.tr_terms.specs.declared.session_mode.SessionMode.TheVariants.{Local, Snapshot}

pub goes-same : (h : History) → GoesOn h h
goes-same h = record { cuts = omega arith; chunks = λ k lt. refl }

pub goes-further : (h g f : History) → GoesOn h g → GoesOn g f → GoesOn h f
goes-further h g f one two =
    let first = one.cuts in
    let second = two.cuts in
    record {
      cuts = omega (arith, first, second);
      chunks = λ k lt. two.chunks k (omega (arith, lt, first)) ∙ one.chunks k lt;
    }

-- a block that is closed waits
pushed : (k : ℕ) (cs : List Closed) (c : Closed) → c.status ≡ Waiting → buffers_where (is_kept_in k) 0 (cs ++ c ∷ []) ≡ buffers_where (is_kept_in k) 0 cs
pushed k cs c waits =
    buffers_where-push (is_kept_in k) 0 cs c
    ∙ ap (λ status. buffers_where (is_kept_in k) 0 cs ++ cond (is_kept_in k status) (buffer_of (0 + discarded_in cs) c ∷ []) []) waits
    ∙ append-nil (buffers_where (is_kept_in k) 0 cs)

followed : (e : Entry) (h : History) → GoesOn h (follow_filling e h)
followed e h = record {
  cuts = omega arith;
  chunks = λ k lt. pushed k h.closed (record { block = h.filling; end = e.moment; status = Waiting }) refl;
}

course-goes : (course : Course) (e : Entry) (h : History) → GoesOn h (after_course course e h)
course-goes (Refuse fault) e h = goes-same h
course-goes Join e h = record { cuts = omega arith; chunks = λ k lt. refl }
course-goes Follow e h = followed e h
course-goes DiscardNewest e h = record { cuts = omega arith; chunks = λ k lt. refl }
course-goes Replace e h =
    let g : History = record h { closed = settle_first Dropped h.closed } in
    goes-further h g (follow_filling e g)
    (record { cuts = omega arith; chunks = λ k lt. other-settle_first (is_kept_in k) Dropped 0 h.closed refl refl })
    (followed e g)

pub offer-goes : (c : StreamConfig) (moment id : ℕ) (payload : List ℕ) (h : History) → GoesOn h (history_after_offer c moment id payload h)
offer-goes c moment id payload h = course-goes (course_of c h (length payload)) (history_entry h moment id payload) h

by-mode : (m : SessionMode) (h g : History) → GoesOn h g → GoesOn h (by_session_mode m g h)
by-mode Local h g goes = goes
by-mode Snapshot h g goes = goes-same h

pub take-goes : (c : StreamConfig) (h : History) → GoesOn h (history_after_take c h)
take-goes c h =
    by-mode c.session h (keep_oldest h)
    (record {
      cuts = omega arith;
      chunks = λ k lt. other-settle_first (is_kept_in k) (Kept h.cuts) 0 h.closed (kept_in k h.cuts lt) refl;
    })

flush-goes : (es : List Entry) (end : ℕ) (h : History) → GoesOn h (close_filling es end h)
flush-goes [] end h = record { cuts = omega arith; chunks = λ k lt. refl }
flush-goes (e ∷ es) end h = record {
  cuts = omega arith;
  chunks = λ k lt. pushed k h.closed (record { block = h.filling; end = end; status = Waiting }) refl;
}

keep-goes : (h : History) → GoesOn h (keep_all h)
keep-goes h = record {
  cuts = omega arith;
  chunks = λ k lt. other-keep_waiting (is_kept_in k) h.cuts 0 h.closed (kept_in k h.cuts lt) refl;
}

pub cut-goes : (c : StreamConfig) (moment : ℕ) (h : History) → GoesOn h (history_after_cut c moment h)
cut-goes c moment h =
    let end = max moment h.last in
    let g = close_filling h.filling.records end h in
    by-mode c.session h (history_cut_ring end h) (goes-further h g (keep_all g) (flush-goes h.filling.records end h) (keep-goes g))

others : (k n : ℕ) → k < n → eqb k n ≡ false
others k n lt = grind (arith, nat_tests, lt)

clear-goes-on : (h : History) → GoesOn h (clear_all h)
clear-goes-on h = record {
  cuts = omega arith;
  chunks = λ k lt. buffers-cleared (is_kept_in k) (is_kept_in k) h.cuts 0 h.closed (other-cleared k h.cuts (others k h.cuts lt));
}

pub clear-goes : (c : StreamConfig) (h : History) → GoesOn h (history_after_clear c h)
clear-goes c h =
    let g = close_filling h.filling.records h.last h in
    by-mode c.session h (history_clear_ring h)
    (goes-further h g (clear_all g) (flush-goes h.filling.records h.last h) (clear-goes-on g))

unless-goes : (refusal : Option ReleaseFault) (k : ℕ) (h : History) → GoesOn h (release_chunk_unless refusal k h)
unless-goes (Some fault) k h = goes-same h
unless-goes None k h = record { cuts = omega arith; chunks = λ j lt. refl }

pub release-goes : (k : ℕ) (h : History) → GoesOn h (history_after_release k h)
release-goes k h = unless-goes (history_release_refusal k h) k h
