use Rattle.std.proofs.Common.{◌+◌, ◌++◌, ◌∙◌, ℕ, List, drop, map, ap, sym, append_assoc, string_bytes}
use Rattle.std.specs.List.{flat_map}
use Rattle.tr_folders.specs.Tree.{by_text}
use Rattle.tr_picture.specs.Sessions.{Line, name_lines, seen}
use Rattle.tr_survey.proofs.PrefixLemmas.{from_place}
use Rattle.tr_picture.proofs.sessions.lines_among.Goals as goal

pub loop-name-preserved : goal.loop-name-preserved
loop-name-preserved g c =
    let i = c.loop-name.name-index in
    let names = c.args.names.now in
    record {
      room = c.in_ok-add_name.ensures.room ∙ c.loop-name.invariant.room;
      tree = c.in_ok-add_name.ensures.tree ∙ c.loop-name.invariant.tree;
      failures = c.in_ok-add_name.ensures.failures ∙ c.loop-name.invariant.failures;
      found = λ t known.
          let h = name_lines c.args.frame.now t c.args.dir.now in
          let rest = flat_map h (by_text (drop (i + 1) names)) in
          let found = map seen c.loop-name.found.items in
          ap (λ (l : List Line). l ++ rest) (c.in_ok-add_name.ensures.found t (c.loop-name.invariant.tree ∙ known)
          ∙ ap (λ (name : List ℕ). found ++ h name) c.as_str.ensures.value)
          ∙ append_assoc found (h (string_bytes c.name-item.result)) rest
          ∙ ap (λ (l : List (List ℕ)). found ++ flat_map h l)
          (sym (from_place string_bytes names i c.name-item.result c.loop-name-test.true c.name-item.is))
          ∙ c.loop-name.invariant.found t known;
    }
