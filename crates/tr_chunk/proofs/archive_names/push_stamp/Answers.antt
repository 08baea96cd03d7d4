use Rattle.std.proofs.Common.{◌≡◌, ◌++◌, List, ℕ, [], ◌∷◌, ap, ◌∙◌, append_assoc}
use Rattle.std.proofs.lemmas.Result.{on_ok_weaker}
use Rattle.jiff_core.specs.Time.{time_seconds}
use Rattle.tr_chunk.specs.ArchiveName.{date_text, time_text, stamp_text}
use Rattle.tr_chunk.specs.Civil.{day_of}
use Rattle.tr_chunk.proofs.archive_names.push_stamp.Goals as goal

four : (before date date₂ time time₂ offset : List ℕ) (o1 o2 o3 o4 : List ℕ) → date ≡ date₂ → time ≡ time₂
    → o1 ≡ before ++ date → o2 ≡ o1 ++ 84 ∷ [] → o3 ≡ o2 ++ time → o4 ≡ o3 ++ offset
    → o4 ≡ before ++ (date₂ ++ (84 ∷ (time₂ ++ offset)))
four before date date₂ time time₂ offset o1 o2 o3 o4 d t e1 e2 e3 e4 = rw (e4, e3, e2, e1, d, t) (simp append_assoc)

pub returns : goal.returns
unfolding stamp_text
returns g c =
    let date = ap (λ x. date_text (day_of x)) c.date.ensures ∙ ap date_text c.clock_of-clock.ensures.date in
    let time = ap (λ x. time_text (time_seconds x)) c.time.ensures ∙ ap time_text c.clock_of-clock.ensures.time in
    on_ok_weaker c.push_offset.result
    (λ offset. four _ _ _ _ _ _ _ _ _ _ date time c.in_ok-push_date.ensures c.in_ok-push_str.ensures.bytes c.in_ok-push_time.ensures offset)
    c.push_offset.ensures
