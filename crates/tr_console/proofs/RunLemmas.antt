-- A run of a script, line by line.
use Rattle.std.proofs.Common.{◌≡◌, ◌∙◌, ◌≤◌, ◌<◌, ◌+◌, ◌⊎◌, ◌-◌, ℕ, inl, inr, refl, sym, ap, ap₂, subst, arith, List, [], ◌∷◌, ◌++◌, Option, length, take, append_assoc, append-nil, length-append}
use Rattle.std.proofs.Math.Seq.{take-append_seam, take-append-add}
use Rattle.std.proofs.lemmas.List.{take-append-le}
use Rattle.tr_console.specs.World.{World, no_sessions}
use Rattle.tr_events.specs.Events.{Declarations}
use Rattle.tr_console.proofs.LineSteps.{answers-append, answers-last, answers-push, line_step-text, one_if, one_if-le, refused_in-append, refused_in-last, refused_in-push, world_after-append, world_after-last, world_after-push}
use Rattle.tr_console.proofs.ScriptAgreement.{agree-after, line-agree}
use Rattle.tr_console.proofs.WorldAgreement.{StepsAgree}
use Rattle.tr_console.specs.Agreement.{WorldsAgree}
use Rattle.tr_console.specs.Gathering.{Gathers, WentInPart}
use Rattle.tr_console.specs.Runs.{AnsweredSome, BrokeOff, Ran, WentTooFar, WroteSome, text_answered, world_left}
use Rattle.tr_console.specs.Script.{answers, line_step, refused_in, script_text_by, text_step, world_after}
use Rattle.tr_console.specs.Steps.{Step}
use Rattle.tr_lines.proofs.LineLemmas.{AreLines, AreLines-push, joined, joined-push, lines_of-joined, lines_of-last, whole_lines-front, whole_lines_of-joined, whole_lines_of-last}
use Rattle.tr_lines.specs.Lines.{HasNoFeed, lines_of, text_of_line, whole_lines_of, with_last}
use Rattle.tr_lines.specs.Reading.{GoesTooFar, Reading, ReadsAll, ReadsLine, ReadsOn, budget}
use Rattle.tr_lines.specs.declared.reader.Found.{Found}
use Rattle.tr_lines.specs.declared.reader.Found.TheVariants.{Last, Whole}
use Rattle.tr_replies.specs.Text.{Text}
use Rattle.tr_record.proofs.ByteLemmas.{and_then_bytes-append, and_then_bytes-none}
use Rattle.tr_record.specs.Bytes.{and_then_bytes}
use Rattle.tr_stream.specs.Rules.{by_history, by_state}
use Rattle.tr_stream.specs.State.{StreamState}
use Rattle.tr_terms.specs.declared.limits.TheConstants.{LONGEST_PIECE, LONGEST_SCRIPT}

-- ---- where a run is between two lines

-- `out` of the answer went out, and the rest is gathered
pub record Going (events : Declarations) (given now taken wrote_now : Option (List ℕ)) (gathered : Text) (reader : Reading) (world : World StreamState)
    (refused : ℕ) : Type 0 where
  pub seen : List (List ℕ)
  pub are_lines : AreLines seen
  pub read : now ≡ and_then_bytes given (joined seen ++ reader.held)
  pub total : reader.total ≡ length (joined seen ++ reader.held)
  pub most : reader.total ≤ LONGEST_SCRIPT
  pub out : Text
  pub went : wrote_now ≡ and_then_bytes taken out
  pub answered : out ++ gathered ≡ text_answered events seen
  pub left : world ≡ world_after by_state (no_sessions events) seen
  pub refusals : refused ≡ refused_in by_history (no_sessions events) seen
  pub fits : refused + budget reader ≤ LONGEST_SCRIPT

pub Going-first : (events : Declarations) (given taken : Option (List ℕ)) (gathered : Text) (reader : Reading) (world : World StreamState) → gathered ≡ []
    → reader.held ≡ [] → reader.total ≡ 0 → world ≡ no_sessions events → Going events given given taken taken gathered reader world 0
Going-first events given taken gathered reader world nothing empty total none = record {
  seen = [];
  are_lines = tt;
  read = sym (ap (and_then_bytes given) empty ∙ and_then_bytes-none given);
  total = total ∙ sym (ap length empty);
  most = omega (arith, total);
  out = [];
  went = sym (and_then_bytes-none taken);
  answered = nothing;
  left = none;
  refusals = refl;
  fits = omega (arith, total, ap length empty);
}

-- a prefix of what is left of an answer, after what went out of it
in_part : (out left all more : Text) (k : ℕ) → out ++ left ≡ all → k ≤ length left → take (length out + k) (all ++ more) ≡ out ++ take k left
in_part out left all more k is short =
    ap (λ (t : Text). take (length out + k) (t ++ more)) (sym is)
    ∙ take-append-le (length out + k) (out ++ left) more (omega (arith, short, length-append out left))
    ∙ take-append-add out left k

module _ (events : Declarations) (given now taken wrote_now : Option (List ℕ)) (gathered : Text) (reader : Reading) (world : World StreamState) (refused : ℕ)
    (g : Going events given now taken wrote_now gathered reader world refused) where
  -- more was gathered, and some of it all went out
  module _ (wrote' : Option (List ℕ)) (more gathered' : Text) (h : Gathers wrote_now wrote' gathered more gathered') where
    went_on : wrote' ≡ and_then_bytes taken (g.out ++ h.out)
    went_on = h.went ∙ ap (λ k. and_then_bytes k h.out) g.went ∙ and_then_bytes-append taken g.out h.out

    still_all : (g.out ++ h.out) ++ gathered' ≡ g.out ++ (gathered ++ more)
    still_all = append_assoc g.out h.out gathered' ∙ ap (λ t. g.out ++ t) (sym h.rest)

  -- some of what is gathered went out
  pub Going-gathers : (wrote' : Option (List ℕ)) (gathered' : Text) → Gathers wrote_now wrote' gathered [] gathered'
      → Going events given now taken wrote' gathered' reader world refused
  Going-gathers wrote' gathered' h = record {
    seen = g.seen;
    are_lines = g.are_lines;
    read = g.read;
    total = g.total;
    most = g.most;
    out = g.out ++ h.out;
    went = went_on wrote' [] gathered' h;
    answered = still_all wrote' [] gathered' h ∙ ap (λ t. g.out ++ t) (append-nil gathered) ∙ g.answered;
    left = g.left;
    refusals = g.refusals;
    fits = g.fits;
  }

  -- all that is gathered went out
  all_out : (wrote' : Option (List ℕ)) → wrote' ≡ and_then_bytes wrote_now gathered → wrote' ≡ and_then_bytes taken (text_answered events g.seen)
  all_out wrote' is =
      is ∙ ap (λ k. and_then_bytes k gathered) g.went ∙ and_then_bytes-append taken g.out gathered ∙ ap (and_then_bytes taken) g.answered

  -- what came so far, and then more
  more_read : (after : Option (List ℕ)) (more bytes : List ℕ) → after ≡ and_then_bytes now more
      → reader.held ++ more ≡ bytes → after ≡ and_then_bytes given (joined g.seen ++ bytes)
  more_read after more bytes came is =
      came ∙ ap (λ k. and_then_bytes k more) g.read ∙ and_then_bytes-append given (joined g.seen ++ reader.held) more
      ∙ ap (and_then_bytes given) (append_assoc (joined g.seen) reader.held more ∙ ap (λ bs. joined g.seen ++ bs) is)

  -- what came so far, and then more, is no longer than a script may be, if the reader counted no more than that
  within_limit : (reader' : Reading) (more bytes : List ℕ) → reader.held ++ more ≡ bytes
      → reader'.total ≡ reader.total + length more → reader'.total ≤ LONGEST_SCRIPT
      → length (joined g.seen ++ bytes) ≤ LONGEST_SCRIPT
  within_limit reader' more bytes is total most =
      omega (
        arith,
        most,
        total,
        g.total,
        length-append (joined g.seen) reader.held,
        length-append reader.held more,
        ap length is,
        length-append (joined g.seen) bytes,
      )

  -- the bytes up to a newline make one more line
  joined-line : (raw rest : List ℕ) → joined g.seen ++ (raw ++ 10 ∷ rest) ≡ joined (g.seen ++ raw ∷ []) ++ rest
  joined-line raw rest =
      ap (λ bs. joined g.seen ++ bs) (sym (append_assoc raw (10 ∷ []) rest)) ∙ sym (append_assoc (joined g.seen) (raw ++ 10 ∷ []) rest)
      ∙ ap (λ bs. bs ++ rest) (sym (joined-push g.seen raw))

  -- the lines of what was seen and of a part of a line
  whole_seen : (raw : List ℕ) → whole_lines_of (joined g.seen ++ raw) ≡ g.seen ++ whole_lines_of raw
  whole_seen raw = whole_lines_of-joined g.seen raw g.are_lines

  -- the step that the text of a line takes, by what streams hold
  by_states : (raw : List ℕ) (text : Option (List ℕ)) → text ≡ text_of_line raw
      → text_step by_state world text ≡ line_step by_state (world_after by_state (no_sessions events) g.seen) raw
  by_states raw text is = ap₂ (text_step by_state) g.left is ∙ line_step-text by_state (world_after by_state (no_sessions events) g.seen) raw

  -- both say the same
  agrees : (raw : List ℕ) → StepsAgree (line_step by_state (world_after by_state (no_sessions events) g.seen) raw)
      (line_step by_history (world_after by_history (no_sessions events) g.seen) raw)
  agrees raw = line-agree raw (world_after by_state (no_sessions events) g.seen) (world_after by_history (no_sessions events) g.seen) (agree-after g.seen (no_sessions events) (no_sessions events) (record { sessions = tt; events = refl }))

  same_text : (raw : List ℕ) (text : Option (List ℕ)) → text ≡ text_of_line raw
      → (text_step by_state world text).text ≡ (line_step by_history (world_after by_history (no_sessions events) g.seen) raw).text
  same_text raw text is = ap (λ (s : Step StreamState). s.text) (by_states raw text is) ∙ (agrees raw).text

  -- what went out, what is gathered, and the next answer
  with_next : (raw : List ℕ) (text : Option (List ℕ)) → text ≡ text_of_line raw
      → g.out ++ (gathered ++ (text_step by_state world text).text) ≡ text_answered events (g.seen ++ raw ∷ [])
  with_next raw text is =
      sym (append_assoc g.out gathered (text_step by_state world text).text) ∙ ap₂ (λ t u. t ++ u) g.answered (same_text raw text is)
      ∙ sym (answers-push by_history (no_sessions events) g.seen raw)

  module _ (after wrote' : Option (List ℕ)) (gathered' : Text) (reader' : Reading) (world' : World StreamState) (refused' : ℕ)
      (text : Option (List ℕ)) (says : text ≡ reader'.line)
      (h : Gathers wrote_now wrote' gathered (text_step by_state world text).text gathered')
      (left : world' ≡ (text_step by_state world text).world)
      (refusals : refused' ≡ refused + one_if (text_step by_state world text).is_refused) where
    went_more : wrote' ≡ and_then_bytes taken (g.out ++ h.out)
    went_more = went_on wrote' (text_step by_state world text).text gathered' h

    answered_more : (raw : List ℕ) → reader'.line ≡ text_of_line raw → (g.out ++ h.out) ++ gathered' ≡ text_answered events (g.seen ++ raw ∷ [])
    answered_more raw is = still_all wrote' (text_step by_state world text).text gathered' h ∙ with_next raw text (says ∙ is)

    refused_more : (raw : List ℕ) → reader'.line ≡ text_of_line raw → refused' ≡ refused_in by_history (no_sessions events) (g.seen ++ raw ∷ [])
    refused_more raw is =
        refusals ∙ ap₂ (λ n b. n + one_if b) g.refusals
        (ap (λ (s : Step StreamState). s.is_refused) (by_states raw text (says ∙ is)) ∙ (agrees raw).is_refused)
        ∙ sym (refused_in-push by_history (no_sessions events) g.seen raw)

    left_more : (raw : List ℕ) → reader'.line ≡ text_of_line raw → world' ≡ world_after by_state (no_sessions events) (g.seen ++ raw ∷ [])
    left_more raw is = left ∙ ap (λ (s : Step StreamState). s.world) (by_states raw text (says ∙ is)) ∙ sym (world_after-push by_state (no_sessions events) g.seen raw)

    -- the sessions that are left are the script's
    agree_left : (raw : List ℕ) → reader'.line ≡ text_of_line raw → (script : List ℕ)
        → lines_of script ≡ g.seen ++ with_last raw → WorldsAgree world' (world_left events script)
    agree_left raw is script lines =
        let seen : world_after by_history (no_sessions events) (g.seen ++ raw ∷ []) ≡ world_left events script =
        world_after-append by_history (no_sessions events) g.seen (raw ∷ []) ∙ world_after-last by_history (world_after by_history (no_sessions events) g.seen) raw
        ∙ sym (world_after-append by_history (no_sessions events) g.seen (with_last raw)) ∙ ap (world_after by_history (no_sessions events)) (sym lines) in
        subst (λ (v : World StreamState). WorldsAgree v (world_left events script)) (sym (left_more raw is))
        (subst (WorldsAgree (world_after by_state (no_sessions events) (g.seen ++ raw ∷ []))) seen (agree-after (g.seen ++ raw ∷ []) (no_sessions events) (no_sessions events) (record { sessions = tt; events = refl })))

    -- a line was answered
    pub Going-line : ReadsLine now after reader reader' → budget reader' < budget reader → reader'.total ≤ LONGEST_SCRIPT
        → Going events given after taken wrote' gathered' reader' world' refused'
    Going-line r less most = record {
      seen = g.seen ++ r.raw ∷ [];
      are_lines = AreLines-push g.seen r.raw g.are_lines r.no_feed;
      read = more_read after r.more _ r.came r.bytes ∙ ap (and_then_bytes given) (joined-line r.raw reader'.held);
      total = omega (
        arith,
        r.total,
        g.total,
        length-append (joined g.seen) reader.held,
        ap length r.bytes,
        length-append reader.held r.more,
        ap length (joined-line r.raw reader'.held),
        length-append (joined g.seen) (r.raw ++ 10 ∷ reader'.held),
      );
      most = most;
      out = g.out ++ h.out;
      went = went_more;
      answered = answered_more r.raw r.text;
      left = left_more r.raw r.text;
      refusals = refused_more r.raw r.text;
      fits = omega (arith, less, refusals, g.fits, one_if-le (text_step by_state world text).is_refused);
    }

    -- the last line was answered, and all went out
    pub Going-last : (wrote'' : Option (List ℕ)) → wrote'' ≡ and_then_bytes wrote' gathered' → ReadsOn now after reader reader'
        → reader'.held ≡ [] → reader'.total ≤ LONGEST_SCRIPT → Ran events given after taken wrote'' world' refused'
    Going-last wrote'' all_went r none most =
        let lines = lines_of-joined g.seen r.raw g.are_lines ∙ ap (λ ls. g.seen ++ ls) (lines_of-last r.raw r.no_feed) in
        let all : reader.held ++ r.more ≡ r.raw = r.bytes ∙ ap (λ bs. r.raw ++ bs) none ∙ append-nil r.raw in
        record {
          script = joined g.seen ++ r.raw;
          fits = within_limit reader' r.more r.raw all r.total most;
          read = more_read after r.more _ r.came all;
          wrote = all_went ∙ ap (λ k. and_then_bytes k gathered') went_more ∙ and_then_bytes-append taken (g.out ++ h.out) gathered'
              ∙ ap (and_then_bytes taken) (answered_more r.raw r.text ∙ answers-append by_history (no_sessions events) g.seen (r.raw ∷ [])
              ∙ ap (λ t. text_answered events g.seen ++ t) (answers-last by_history (world_after by_history (no_sessions events) g.seen) r.raw)
              ∙ sym (answers-append by_history (no_sessions events) g.seen (with_last r.raw)) ∙ ap (text_answered events) (sym lines));
          refusals = refused_more r.raw r.text ∙ refused_in-append by_history (no_sessions events) g.seen (r.raw ∷ [])
              ∙ ap (λ n. refused_in by_history (no_sessions events) g.seen + n) (refused_in-last by_history (world_after by_history (no_sessions events) g.seen) r.raw)
              ∙ sym (refused_in-append by_history (no_sessions events) g.seen (with_last r.raw)) ∙ ap (refused_in by_history (no_sessions events)) (sym lines);
          sessions = agree_left r.raw r.text (joined g.seen ++ r.raw) lines;
        }

  -- ---- a run that ends early

  -- the lines that were seen are the whole ones of what came
  whole_so_far : (raw : List ℕ) → HasNoFeed raw → whole_lines_of (joined g.seen ++ raw) ≡ g.seen
  whole_so_far raw none = whole_seen raw ∙ ap (λ ls. g.seen ++ ls) (whole_lines_of-last raw none) ∙ append-nil g.seen

  -- the source failed: the line that broke off isn't answered
  pub Going-breaks : (after wrote' : Option (List ℕ)) (reader' : Reading) → wrote' ≡ and_then_bytes wrote_now gathered
      → reader'.total ≤ LONGEST_SCRIPT → ReadsAll now after reader reader' → BrokeOff events given after taken wrote'
  Going-breaks after wrote' reader' all_went most r =
      let all : reader.held ++ r.on.more ≡ r.on.raw = r.on.bytes ∙ ap (λ bs. r.on.raw ++ bs) r.nothing_held ∙ append-nil r.on.raw in
      record {
        script = joined g.seen ++ r.on.raw;
        fits = within_limit reader' r.on.more r.on.raw all r.on.total most;
        read = more_read after r.on.more _ r.on.came all;
        wrote = all_out wrote' all_went ∙ ap (λ ls. and_then_bytes taken (text_answered events ls)) (sym (whole_so_far r.on.raw r.on.no_feed));
      }

  -- the script is too long
  pub Going-too_far : (after wrote' : Option (List ℕ)) (reader' : Reading) → wrote' ≡ and_then_bytes wrote_now gathered
      → GoesTooFar now after reader reader' → WentTooFar events given after taken wrote'
  Going-too_far after wrote' reader' all_went r =
      let on = r.all.on in
      let came : r.within ≡ and_then_bytes given (joined g.seen ++ on.raw) =
      more_read r.within on.more _ on.came (on.bytes ∙ ap (λ bs. on.raw ++ bs) r.all.nothing_held ∙ append-nil on.raw)
      in
      record {
        script = joined g.seen ++ on.raw;
        byte = r.byte;
        full = omega (
          arith,
          r.full,
          on.total,
          g.total,
          length-append (joined g.seen) reader.held,
          ap length on.bytes,
          length-append on.raw reader'.held,
          ap length r.all.nothing_held,
          length-append reader.held on.more,
          length-append (joined g.seen) on.raw,
        );
        read = r.came ∙ ap (λ k. and_then_bytes k (r.byte ∷ [])) came ∙ and_then_bytes-append given (joined g.seen ++ on.raw) (r.byte ∷ []);
        wrote = all_out wrote' all_went ∙ ap (λ ls. and_then_bytes taken (text_answered events ls)) (sym (whole_so_far on.raw on.no_feed));
      }

  -- of what came before the last piece, at most one whole line isn't seen
  reached_by : (front rest script : List ℕ) → script ≡ front ++ rest → length rest ≤ LONGEST_PIECE → length (whole_lines_of front) ≤ length g.seen + 1
      → length (whole_lines_of (take (length script - LONGEST_PIECE) script)) ≤ length g.seen + 1
  reached_by front rest script is short few =
      let before = ap (λ (bs : List ℕ). length (whole_lines_of (take (length bs - LONGEST_PIECE) bs))) is in
      omega (arith, before, whole_lines-front front rest LONGEST_PIECE short, few)

  -- whole lines end to end are just these
  whole_joined : (lines : List (List ℕ)) → AreLines lines → whole_lines_of (joined lines) ≡ lines
  whole_joined lines are = ap whole_lines_of (sym (append-nil (joined lines))) ∙ whole_lines_of-joined lines [] are ∙ append-nil lines

  -- the first lines of what was seen and of more
  first_seen : (rest : List (List ℕ)) → take (length g.seen) (g.seen ++ rest) ≡ g.seen
  first_seen rest = take-append_seam g.seen rest

  -- an allocation failed while a line was read
  pub Going-memory : (after wrote' : Option (List ℕ)) (reader' : Reading) → wrote' ≡ and_then_bytes wrote_now gathered
      → reader'.total ≤ LONGEST_SCRIPT → length reader'.held ≤ LONGEST_PIECE → ReadsOn now after reader reader'
      → AnsweredSome events given after taken wrote'
  Going-memory after wrote' reader' all_went most held r = record {
    script = joined g.seen ++ (r.raw ++ reader'.held);
    count = length g.seen;
    fits = within_limit reader' r.more (r.raw ++ reader'.held) r.bytes r.total most;
    read = more_read after r.more _ r.came r.bytes;
    wrote = all_out wrote' all_went ∙ ap (λ ls. and_then_bytes taken (text_answered events ls))
        (sym (ap (take (length g.seen)) (whole_seen (r.raw ++ reader'.held))
        ∙ first_seen (whole_lines_of (r.raw ++ reader'.held))));
    reached = reached_by (joined g.seen ++ r.raw) reader'.held (joined g.seen ++ (r.raw ++ reader'.held))
        (sym (append_assoc (joined g.seen) r.raw reader'.held)) held
        (omega (arith, ap length (whole_so_far r.raw r.no_feed)));
  }

  -- the sink failed before more was read
  pub Going-wrote : (content after wrote' : Option (List ℕ)) → after ≡ now → WentInPart wrote_now wrote' gathered
      → WroteSome events given after taken wrote' content
  Going-wrote content after wrote' same w =
      let script = joined g.seen ++ reader.held in
      let lines = ap (text_answered events) (lines_of-joined g.seen reader.held g.are_lines) ∙ answers-append by_history (no_sessions events) g.seen (lines_of reader.held) in
      let whole = ap (text_answered events) (whole_seen reader.held) ∙ answers-append by_history (no_sessions events) g.seen (whole_lines_of reader.held) in
      record {
        script = script;
        count = length g.out + w.count;
        fits = omega (arith, g.most, g.total);
        read = same ∙ g.read;
        wrote = w.went ∙ ap (λ k. and_then_bytes k (take w.count gathered)) g.went ∙ and_then_bytes-append taken g.out (take w.count gathered)
            ∙ ap (and_then_bytes taken) (sym (ap (take (length g.out + w.count)) lines
            ∙ in_part g.out gathered (text_answered events g.seen) (answers by_history (world_after by_history (no_sessions events) g.seen) (lines_of reader.held))
            w.count g.answered w.within));
        within = inl (omega (
          arith,
          w.within,
          ap length g.answered,
          length-append g.out gathered,
          ap length whole,
          length-append (text_answered events g.seen) (answers by_history (world_after by_history (no_sessions events) g.seen) (whole_lines_of reader.held)),
        ));
      }

  -- ---- a line that came

  -- `raw` came, the next line; what is known of the script begins with it, and is all of it if this is the last line
  pub record Comes (content after : Option (List ℕ)) (reader' : Reading) : Type 0 where
    pub raw : List ℕ
    pub script : List ℕ
    pub more : Text
    pub lines : List (List ℕ)
    pub fits : length script ≤ LONGEST_SCRIPT
    pub text : reader'.line ≡ text_of_line raw
    pub read : after ≡ and_then_bytes given script
    pub answer : script_text_by events script ≡ text_answered events (g.seen ++ raw ∷ []) ++ more
    pub whole : whole_lines_of script ≡ g.seen ++ lines
    pub within : (length (text_answered events (g.seen ++ raw ∷ [])) ≤ length (text_answered events (whole_lines_of script))) ⊎ (after ≡ content)
    pub reached : length (whole_lines_of (take (length script - LONGEST_PIECE) script)) ≤ length g.seen + 1

  Comes-whole : (content after : Option (List ℕ)) (reader' : Reading) → reader'.total ≤ LONGEST_SCRIPT
      → length reader'.held ≤ LONGEST_PIECE → ReadsLine now after reader reader' → Comes content after reader'
  Comes-whole content after reader' most held r =
      let are = AreLines-push g.seen r.raw g.are_lines r.no_feed in
      let lines = lines_of-joined (g.seen ++ r.raw ∷ []) reader'.held are in
      let whole = whole_lines_of-joined (g.seen ++ r.raw ∷ []) reader'.held are in
      let reached = ap (text_answered events) whole ∙ answers-append by_history (no_sessions events) (g.seen ++ r.raw ∷ []) (whole_lines_of reader'.held) in
      record {
        raw = r.raw;
        script = joined (g.seen ++ r.raw ∷ []) ++ reader'.held;
        more = answers by_history (world_after by_history (no_sessions events) (g.seen ++ r.raw ∷ [])) (lines_of reader'.held);
        lines = r.raw ∷ whole_lines_of reader'.held;
        fits = subst (λ (bs : List ℕ). length bs ≤ LONGEST_SCRIPT) (joined-line r.raw reader'.held)
            (within_limit reader' r.more (r.raw ++ 10 ∷ reader'.held) r.bytes r.total most);
        text = r.text;
        read = more_read after r.more _ r.came r.bytes ∙ ap (and_then_bytes given) (joined-line r.raw reader'.held);
        answer = ap (text_answered events) lines ∙ answers-append by_history (no_sessions events) (g.seen ++ r.raw ∷ []) (lines_of reader'.held);
        whole = whole ∙ append_assoc g.seen (r.raw ∷ []) (whole_lines_of reader'.held);
        within = inl (omega (
          arith,
          ap length reached,
          length-append (text_answered events (g.seen ++ r.raw ∷ []))
              (answers by_history (world_after by_history (no_sessions events) (g.seen ++ r.raw ∷ [])) (whole_lines_of reader'.held)),
        ));
        reached = reached_by (joined (g.seen ++ r.raw ∷ [])) reader'.held _ refl held
            (omega (arith, ap length (whole_joined (g.seen ++ r.raw ∷ []) are), length-append g.seen (r.raw ∷ [])));
      }

  Comes-last : (content after : Option (List ℕ)) (reader' : Reading) → reader'.total ≤ LONGEST_SCRIPT
      → ReadsAll now after reader reader' → after ≡ content → Comes content after reader'
  Comes-last content after reader' most r end =
      let on = r.on in
      let all : reader.held ++ on.more ≡ on.raw = on.bytes ∙ ap (λ bs. on.raw ++ bs) r.nothing_held ∙ append-nil on.raw in
      let lines = lines_of-joined g.seen on.raw g.are_lines ∙ ap (λ ls. g.seen ++ ls) (lines_of-last on.raw on.no_feed) in
      record {
        raw = on.raw;
        script = joined g.seen ++ on.raw;
        more = [];
        lines = [];
        fits = within_limit reader' on.more on.raw all on.total most;
        text = on.text;
        read = more_read after on.more _ on.came all;
        answer = ap (text_answered events) lines ∙ answers-append by_history (no_sessions events) g.seen (with_last on.raw)
            ∙ ap (λ t. text_answered events g.seen ++ t) (sym (answers-last by_history (world_after by_history (no_sessions events) g.seen) on.raw))
            ∙ sym (answers-append by_history (no_sessions events) g.seen (on.raw ∷ [])) ∙ sym (append-nil (text_answered events (g.seen ++ on.raw ∷ [])));
        whole = whole_seen on.raw ∙ ap (λ ls. g.seen ++ ls) (whole_lines_of-last on.raw on.no_feed);
        within = inr end;
        reached = reached_by (joined g.seen ++ on.raw) [] _ (sym (append-nil (joined g.seen ++ on.raw))) (omega arith)
            (omega (arith, ap length (whole_so_far on.raw on.no_feed)));
      }

  pub Comes-found : (content : Option (List ℕ)) (found : Found) (after : Option (List ℕ)) (reader' : Reading)
      → reader'.total ≤ LONGEST_SCRIPT → length reader'.held ≤ LONGEST_PIECE
      → (found ≡ Whole → ReadsLine now after reader reader')
      → (found ≡ Last → ReadsAll now after reader reader' × (after ≡ content)) → Comes content after reader'
  Comes-found content Whole after reader' most held whole last = Comes-whole content after reader' most held (whole refl)
  Comes-found content Last after reader' most held whole last = Comes-last content after reader' most (last refl).0 (last refl).1

  -- the sink failed: a prefix of the answer went out
  Comes-in_part : (content after wrote' wrote'' : Option (List ℕ)) (reader' : Reading) (c : Comes content after reader') (out left : Text)
      → wrote' ≡ and_then_bytes taken out → out ++ left ≡ text_answered events (g.seen ++ c.raw ∷ []) → WentInPart wrote' wrote'' left
      → WroteSome events given after taken wrote'' content
  Comes-in_part content after wrote' wrote'' reader' c out left went is w = record {
    script = c.script;
    count = length out + w.count;
    fits = c.fits;
    read = c.read;
    wrote = w.went ∙ ap (λ k. and_then_bytes k (take w.count left)) went ∙ and_then_bytes-append taken out (take w.count left)
        ∙ ap (and_then_bytes taken) (sym (ap (take (length out + w.count)) c.answer
        ∙ in_part out left (text_answered events (g.seen ++ c.raw ∷ [])) c.more w.count is w.within));
    within = elim c.within [
      | inl before ↦ inl (omega (arith, before, w.within, ap length is, length-append out left))
      | inr end ↦ inr end
    ];
  }

  -- .. while the answer to the line was gathered
  pub Comes-wrote : (content after wrote' : Option (List ℕ)) (reader' : Reading) (text : Option (List ℕ)) → text ≡ reader'.line
      → WentInPart wrote_now wrote' (gathered ++ (text_step by_state world text).text) → Comes content after reader'
      → WroteSome events given after taken wrote' content
  Comes-wrote content after wrote' reader' text says w c =
      Comes-in_part content after wrote_now wrote' reader' c g.out (gathered ++ (text_step by_state world text).text) g.went
      (with_next c.raw text (says ∙ c.text)) w

  -- .. after it was gathered
  pub Comes-gathered : (content after wrote' wrote'' : Option (List ℕ)) (gathered' : Text) (reader' : Reading) (text : Option (List ℕ))
      → text ≡ reader'.line → Gathers wrote_now wrote' gathered (text_step by_state world text).text gathered'
      → WentInPart wrote' wrote'' gathered' → Comes content after reader' → WroteSome events given after taken wrote'' content
  Comes-gathered content after wrote' wrote'' gathered' reader' text says h w c =
      Comes-in_part content after wrote' wrote'' reader' c (g.out ++ h.out) gathered'
      (went_on wrote' (text_step by_state world text).text gathered' h)
      (still_all wrote' (text_step by_state world text).text gathered' h ∙ with_next c.raw text (says ∙ c.text)) w

  -- an allocation failed while a line was answered
  pub Comes-memory : (content after wrote' : Option (List ℕ)) (reader' : Reading) → wrote' ≡ and_then_bytes wrote_now gathered
      → Comes content after reader' → AnsweredSome events given after taken wrote'
  Comes-memory content after wrote' reader' all_went c = record {
    script = c.script;
    count = length g.seen;
    fits = c.fits;
    read = c.read;
    wrote = all_out wrote' all_went ∙ ap (λ ls. and_then_bytes taken (text_answered events ls)) (sym (ap (take (length g.seen)) c.whole ∙ first_seen c.lines));
    reached = c.reached;
  }
