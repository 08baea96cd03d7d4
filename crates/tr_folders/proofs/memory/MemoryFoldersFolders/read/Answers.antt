use Rattle.std.proofs.Common.{◌≡◌, ◌+◌, ◌-◌, ◌<◌, ◌≤◌, ◌++◌, min, max, ℕ, List, Some, length, take, drop, ap, sym, ◌∙◌, subst, arith}
use Rattle.std.proofs.lemmas.List.{length-drop, take_all}
use Rattle.tr_folders.specs.Kept.{file_of}
use Rattle.tr_folders.specs.Tree.{File, IsBroken, Reads}
use Rattle.tr_folders.proofs.ReadLemmas.{reads_copied}
use Rattle.tr_folders.proofs.memory.MemoryFoldersFolders.read.Goals as goal

file_same : (a b : File) → Some a ≡ Some b → a ≡ b
file_same a b e = cc

behind : (xs ys : List ℕ) (at : ℕ) → xs ≡ ys → take (length xs - at) (drop at xs) ≡ drop at ys
behind xs ys at same =
    let l = length-drop at xs in
    take_all (length xs - at) (drop at xs) (omega (arith, l)) ∙ ap (drop at) same

none_left : (left buffer piece a b n : ℕ) → a ≡ min left buffer → b ≡ max piece 1 → n ≡ min a b → 0 < buffer → n ≡ 0 → left ≡ 0
none_left left buffer piece a b n e f h some none = omega arith

within_left : (left buffer b a n : ℕ) → a ≡ min left buffer → n ≡ min a b → n ≤ left
within_left left buffer b a n e h = omega arith

pub returns-clause-reads : goal.returns-clause-reads
returns-clause-reads c file e =
    let all = c.args.self.now.open.items in
    let at = c.args.self.now.at in
    let breaks = c.args.self.now.breaks in
    let n = c.min-count.result in
    let whole = behind c.deref.result.now all at c.deref.ensures.value in
    let count = c.min.ensures ∙ ap (λ (l : List ℕ). min (length l) (length c.args.buffer.now)) whole in
    subst (λ (f : File). Reads f (take n (c.copy_from_slice.new.self ++ drop n c.args.buffer.now)) (Some (file_of (drop (at + n) all) breaks))) (file_same (file_of (drop at all) breaks) file e)
    (reads_copied all at n breaks c.copy_from_slice.new.self (drop n c.args.buffer.now) (c.copy_from_slice.ensures.after ∙ ap (take n) whole)
    (within_left (length (drop at all)) (length c.args.buffer.now) c.max.result c.min.result n count c.min-count.ensures)
    (none_left (length (drop at all)) (length c.args.buffer.now) c.args.self.now.piece c.min.result c.max.result n count c.max.ensures c.min-count.ensures c.requires)
    (λ none. c.is_broken.ensures.whole c.if-is_broken.false (ap length whole ∙ none)))

pub returns-then-is_broken-clause-broken : goal.returns-then-is_broken-clause-broken
returns-then-is_broken-clause-broken c is file e =
    let all = c.args.self.now.open.items in
    let at = c.args.self.now.at in
    let breaks = c.args.self.now.breaks in
    let whole = behind c.deref.result.now all at c.deref.ensures.value in
    let both = c.is_broken.ensures.broken c.if-is_broken.true in
    subst IsBroken (file_same (file_of (drop at all) breaks) file e) (sym whole ∙ both.0, both.1)
