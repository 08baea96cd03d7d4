-- How a reader of lines goes on.
use Rattle.std.proofs.Common.{◌≡◌, ◌∙◌, ◌<◌, ◌≤◌, ◌+◌, ◌-◌, ℕ, true, false, refl, sym, ap, arith, List, [], ◌∷◌, ◌++◌, Option, Some, None, length, take, append_assoc, append-nil, length-append, drop_of_length-le, drop-drop, ◌⊎◌, inl, inr}
use Rattle.std.proofs.lemmas.Bool.{cases_lt}
use Rattle.std.proofs.lemmas.List.{drop-take}
use Rattle.std.proofs.lemmas.Grind.{common_steps}
use Rattle.std.specs.List.{position}
use Rattle.std.proofs.Math.ListN.{drop}
use Rattle.std.proofs.lemmas.List.Elements.{All-append}
use Rattle.tr_record.specs.Bytes.{and_then_bytes}
use Rattle.tr_record.proofs.ByteLemmas.{and_then_bytes-append, and_then_bytes-none}
use Rattle.tr_lines.specs.Lines.{is_feed, keep_more}
use Rattle.tr_lines.specs.Reading.{BeginsLine, Reading, ReadsLine, ReadsOn, TakesLine, TakesPart, reading}
use Rattle.tr_lines.proofs.LineLemmas.{feed_splits, keep_more-text, no_feed_at_all, no_feed_before}

-- what is held once a line has gone from it
pub held_after : (bytes : List ℕ) (start stop place : ℕ) → take (stop - (start + (place + 1))) (drop (start + (place + 1)) bytes)
    ≡ drop (place + 1) (take (stop - start) (drop start bytes))
held_after bytes start stop place = go (cases_lt (place + 1) (stop - start))
  where
    go : ((place + 1 < stop - start) ⊎ (stop - start ≤ place + 1)) → take (stop - (start + (place + 1))) (drop (start + (place + 1)) bytes)
        ≡ drop (place + 1) (take (stop - start) (drop start bytes))
    go (inl inside) =
        let split : stop - start ≡ (place + 1) + (stop - (start + (place + 1))) = omega arith in
        sym (ap (λ n. drop (place + 1) (take n (drop start bytes))) split ∙ drop-take (place + 1) (stop - (start + (place + 1))) (drop start bytes)
        ∙ ap (take (stop - (start + (place + 1)))) (drop-drop (place + 1) start bytes))
    go (inr past) =
        let none : stop - (start + (place + 1)) ≡ 0 = omega arith in
        rw none (sym (drop_of_length-le (take (stop - start) (drop start bytes)) (grind (arith, common_steps))))

-- the part before the first newline goes to the line
pub TakesPart-feed : (old new : Reading) (i : ℕ) → position is_feed old.held ≡ Some i → new.held ≡ drop (i + 1) old.held
    → new.line ≡ keep_more old.line (take i old.held) → new.total ≡ old.total → TakesPart old new true
TakesPart-feed old new i at rest text total = record {
  part = take i old.held;
  no_feed = no_feed_before old.held i at;
  bytes = feed_splits old.held i at ∙ ap (λ bs. take i old.held ++ 10 ∷ bs) (sym rest);
  rest = λ e. cc;
  text = text;
  total = total;
}

-- all goes to the line
pub TakesPart-all : (old new : Reading) → position is_feed old.held ≡ None → new.held ≡ [] → new.line ≡ keep_more old.line old.held
    → new.total ≡ old.total → TakesPart old new false
TakesPart-all old new none empty text total = record {
  part = old.held;
  no_feed = no_feed_at_all old.held none;
  bytes = sym (append-nil old.held);
  rest = λ _. empty;
  text = text;
  total = total;
}

-- a line has begun, and the source gave nothing yet
pub ReadsOn-begun : (before : Option (List ℕ)) (old new : Reading) → BeginsLine old new → ReadsOn before before old new
ReadsOn-begun before old new b = record {
  raw = old.held;
  more = [];
  came = sym (and_then_bytes-none before);
  bytes = ap (λ (r : Reading). old.held ++ r.held) (sym b.begun);
  no_feed = b.no_feed;
  text = ap (λ (r : Reading). r.line) b.begun;
  total = omega (arith, ap (λ (r : Reading). r.total) b.begun);
}

-- a line is taken, and the source gave nothing
pub ReadsLine-taken : (before : Option (List ℕ)) (old new : Reading) → TakesLine old new → ReadsLine before before old new
ReadsLine-taken before old new t = record {
  raw = t.raw;
  more = [];
  came = sym (and_then_bytes-none before);
  bytes = append-nil old.held ∙ t.bytes;
  no_feed = t.no_feed;
  text = t.text;
  total = omega (arith, t.total);
}

module _ (before now : Option (List ℕ)) (old mid new : Reading) (s : ReadsOn before now old mid) where
  -- the line is whole
  pub ReadsOn-whole : TakesPart mid new true → ReadsLine before now old new
  ReadsOn-whole p = record {
    raw = s.raw ++ p.part;
    more = s.more;
    came = s.came;
    bytes = s.bytes ∙ ap (λ bs. s.raw ++ bs) p.bytes ∙ sym (append_assoc s.raw p.part (10 ∷ new.held));
    no_feed = All-append (λ b. is_feed b ≡ false) s.raw p.part s.no_feed p.no_feed;
    text = p.text ∙ ap (λ t. keep_more t p.part) s.text ∙ keep_more-text s.raw p.part;
    total = p.total ∙ s.total;
  }

  -- the line goes on
  pub ReadsOn-part : TakesPart mid new false → ReadsOn before now old new
  ReadsOn-part p = record {
    raw = s.raw ++ p.part;
    more = s.more;
    came = s.came;
    bytes = s.bytes ∙ ap (λ bs. s.raw ++ bs) (p.bytes ∙ ap (λ bs. p.part ++ bs) (sym (p.rest refl))) ∙ sym (append_assoc s.raw p.part new.held);
    no_feed = All-append (λ b. is_feed b ≡ false) s.raw p.part s.no_feed p.no_feed;
    text = p.text ∙ ap (λ t. keep_more t p.part) s.text ∙ keep_more-text s.raw p.part;
    total = p.total ∙ s.total;
  }

  -- the next piece came
  pub ReadsOn-piece : (after : Option (List ℕ)) → mid.held ≡ [] → after ≡ and_then_bytes now new.held
      → new ≡ reading new.held (mid.total + length new.held) mid.line → ReadsOn before after old new
  ReadsOn-piece after empty came is = record {
    raw = s.raw;
    more = s.more ++ new.held;
    came = came ∙ ap (λ k. and_then_bytes k new.held) s.came ∙ and_then_bytes-append before s.more new.held;
    bytes = sym (append_assoc old.held s.more new.held) ∙ ap (λ bs. bs ++ new.held) (s.bytes ∙ ap (λ bs. s.raw ++ bs) empty ∙ append-nil s.raw);
    no_feed = s.no_feed;
    text = ap (λ (r : Reading). r.line) is ∙ s.text;
    total = omega (arith, ap (λ (r : Reading). r.total) is, s.total, length-append s.more new.held);
  }

-- nothing was given since
pub ReadsOn-still : (before now after : Option (List ℕ)) (old mid new : Reading) → ReadsOn before now old mid → after ≡ now
    → new ≡ mid → ReadsOn before after old new
ReadsOn-still before now after old mid new s given same = rw (given, same) s
