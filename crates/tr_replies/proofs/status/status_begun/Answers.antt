use Rattle.std.proofs.Common.{◌≡◌, ◌∙◌, ◌∷◌, ◌++◌, [], ap, append_assoc}
use Rattle.std.specs.String.{string_bytes}
use Rattle.tr_replies.specs.Status.{status_head, status_line}
use Rattle.tr_replies.specs.Text.{Text}
use Rattle.tr_replies.proofs.status.status_begun.Goals as goal

pub returns : goal.returns
returns g c =
    let line = status_line c.args.name.now c.args.book.now c.args.cleared in
    let one : string_bytes c.push_str.new.self ≡ string_bytes c.in_ok-text.text ++ 10 ∷ [] =
    rw c.in_ok-push_str.was at c.push_str.ensures.bytes in
    let two : string_bytes c.push_str-2.new.self ≡ string_bytes c.push_str.new.self ++ status_head =
    rw c.in_ok-push_str-2.was at c.push_str-2.ensures.bytes in
    two ∙ ap (λ (t : Text). t ++ status_head) (one ∙ ap (λ (t : Text). t ++ 10 ∷ []) c.in_ok-text.ensures)
    ∙ append_assoc line (10 ∷ []) status_head
