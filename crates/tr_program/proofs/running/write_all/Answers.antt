use Rattle.std.proofs.Common.{◌≡◌, ◌<◌, Some, length, refl, sym, arith}
use Rattle.std.proofs.lemmas.Grind.{common_steps}
use Rattle.std.proofs.lemmas.Option.{get_or_from_slice_get}
use Rattle.std.specs.Prelude.{slice_get}
use Rattle.tr_export.proofs.MakingLemmas.{OnErr-always, each_cut, each_more}
use Rattle.tr_export.specs.Archives.{archives_made}
use Rattle.tr_replies.specs.Text.{Text}
use Rattle.tr_session.specs.Session.{SessionOf}
use Rattle.tr_stream.specs.State.{StreamState}
use Rattle.tr_program.proofs.running.write_all.Goals as goal

pub sessions-preserved : goal.sessions-preserved
sessions-preserved g c =
    let w = c.args.console.now.sessions in
    let e : Text × SessionOf StreamState = (c.in-Some.name, c.in-Some.session.now) in
    let got : slice_get w c.sessions.k ≡ Some e = sym c.in-Some.ensures in
    let within : c.sessions.k < length w = omega (arith, c.sessions-test.true, c.sessions-k-end.ensures) in
    record {
      made =
          each_more (λ (s : Text × SessionOf StreamState). archives_made c.args.dir.now s.0 s.1)
          (g.D.Disk.made c.args.disk.now) (g.D.Disk.made c.sessions.disk) (g.D.Disk.made c.write_archives.new.disk)
          w w c.sessions.k e refl within (sym (get_or_from_slice_get w c.sessions.k e e got)) c.sessions.invariant.made
          c.in_ok-write_archives.ensures.ok;
      works = λ n is. c.in_ok-write_archives.ensures.failures n (c.sessions.invariant.works n is);
    }

pub returns-in_err-write_archives-clause-err : goal.returns-in_err-write_archives-clause-err
returns-in_err-write_archives-clause-err g c =
    let w = c.args.console.now.sessions in
    let e : Text × SessionOf StreamState = (c.in-Some.name, c.in-Some.session.now) in
    let got : slice_get w c.sessions.k ≡ Some e = sym c.in-Some.ensures in
    let within : c.sessions.k < length w = omega (arith, c.sessions-test.true, c.sessions-k-end.ensures) in
    OnErr-always c.from_residual.result (
    each_cut (λ (s : Text × SessionOf StreamState). archives_made c.args.dir.now s.0 s.1) (g.D.Disk.made c.args.disk.now)
    (g.D.Disk.made c.sessions.disk) (g.D.Disk.made c.write_archives.new.disk)
    w w c.sessions.k e refl within (sym (get_or_from_slice_get w c.sessions.k e e got)) c.sessions.invariant.made c.in_err-write_archives.ensures.err
    )

pub returns-clause-ok : goal.returns-clause-ok
returns-clause-ok g c = grind (arith, common_steps)
