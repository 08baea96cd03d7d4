use Rattle.std.proofs.Common.{◌≡◌, ◌∙◌, [], false, ap, arith, sym, append-nil}
use Rattle.std.proofs.lemmas.List.Elements.{All-nil}
use Rattle.tr_console.proofs.script.next_line.Goals as goal
use Rattle.tr_lines.specs.Lines.{is_feed}
use Rattle.tr_lines.specs.Reading.{Reading}
use Rattle.tr_record.proofs.ByteLemmas.{and_then_bytes-none}

-- nothing of the line is taken
pub returns-in_ok-put_out-in-Err-clause-memory : goal.returns-in_ok-put_out-in-Err-clause-memory
returns-in_ok-put_out-in-Err-clause-memory g c _ =
    let old = c.args.reader.now in
    let err = c.in-Err.ensures.err in (
      record {
        raw = [];
        more = [];
        came = sym (and_then_bytes-none (g.S.ByteSource.given c.args.source.now));
        bytes = append-nil old.held ∙ ap (λ (r : Reading). r.held) (sym err);
        no_feed = All-nil (λ b. is_feed b ≡ false);
        text = ap (λ (r : Reading). r.line) err;
        total = omega (arith, ap (λ (r : Reading). r.total) err);
      },
      c.in_ok-put_out-in-Err.ensures.ok,
    )
