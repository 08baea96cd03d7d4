use Rattle.std.proofs.Common.{◌≡◌, ◌++◌, List, ℕ, [], ◌∷◌, append_assoc}
use Rattle.std.specs.Fmt.{decimal}
use Rattle.tr_chunk.specs.ArchiveName.{stamp_text, archive_name_text}
use Rattle.tr_chunk.proofs.archive_names.archive_name.Goals as goal

five : (a b d : List ℕ) (o0 o1 o2 o3 o4 : List ℕ) → o0 ≡ [] → o1 ≡ o0 ++ a → o2 ≡ o1 ++ 45 ∷ [] → o3 ≡ o2 ++ b
    → o4 ≡ o3 ++ (45 ∷ d) → o4 ≡ a ++ (45 ∷ (b ++ (45 ∷ d)))
five a b d o0 o1 o2 o3 o4 e0 e1 e2 e3 e4 = rw (e4, e3, e2, e1, e0) (simp append_assoc)

pub returns : goal.returns
unfolding archive_name_text
returns g c =
    five (stamp_text c.args.begin c.args.offset) (stamp_text c.args.end c.args.offset) (decimal c.args.id) _ _ _ _ _
    c.in_ok-text.ensures.bytes c.in_ok-push_stamp.ensures c.in_ok-push_str.ensures.bytes c.in_ok-push_stamp-2.ensures
    c.in_ok-write.ensures.bytes
