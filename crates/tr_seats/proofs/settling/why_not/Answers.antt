use Rattle.std.proofs.Common.{sym, true≢false, ◌∙◌}
use Rattle.tr_seats.proofs.settling.why_not.Goals as goal

pub returns-then-not-has_one_each : goal.returns-then-not-has_one_each
returns-then-not-has_one_each g c = λ all. absurd (true≢false (sym (c.has_one_each.ensures.1 all) ∙ c.if-not-has_one_each.true))

pub returns-then-drainers : goal.returns-then-drainers
returns-then-drainers g c = (
  c.has_one_each.ensures.0 c.if-not-has_one_each.false,
  λ same. absurd (c.if-drainers.true (same ∙ sym c.drainers.ensures)),
)

pub returns-then-not-have_all_made : goal.returns-then-not-have_all_made
returns-then-not-have_all_made g c = (
  c.has_one_each.ensures.0 c.if-not-has_one_each.false,
  c.if-drainers.false ∙ c.drainers.ensures,
  λ whole. absurd (true≢false (sym (c.have_all_made.ensures.1 whole.made) ∙ c.if-not-have_all_made.true)),
)

pub returns-then-not-are_in_place : goal.returns-then-not-are_in_place
returns-then-not-are_in_place g c = (
  c.has_one_each.ensures.0 c.if-not-has_one_each.false,
  c.if-drainers.false ∙ c.drainers.ensures,
  λ whole. absurd (true≢false (sym (c.are_in_place.ensures.1 whole.in_place) ∙ c.if-not-are_in_place.true)),
)

pub returns : goal.returns
returns g c = record {
  one_each = c.has_one_each.ensures.0 c.if-not-has_one_each.false;
  all_drainers = c.if-drainers.false ∙ c.drainers.ensures;
  whole = record {
    made = c.have_all_made.ensures.0 c.if-not-have_all_made.false;
    in_place = c.are_in_place.ensures.0 c.if-not-are_in_place.false;
  };
}
