use Rattle.std.proofs.Common.{◌∙◌, ℕ, List, refl, ap, subst}
use Rattle.tr_picture.proofs.PictureLemmas.{by_survey, front_by_survey, nothing_told}
use Rattle.tr_picture.specs.Picture.{picture_of}
use Rattle.tr_record.specs.Bytes.{and_then_bytes}
use Rattle.tr_survey.proofs.PrefixLemmas.{at_err, front_nothing}
use Rattle.tr_survey.specs.Prefix.{IsPrefixOut, IsTold}
use Rattle.tr_survey.specs.declared.faults.Surveyed.{Surveyed}
use Rattle.tr_survey.specs.declared.faults.Surveyed.TheVariants.{Unlisted, NoSession, Faults}
use Rattle.tr_picture.proofs.picturing.picture.Goals as goal

pub returns-in_err-said-clause-err : goal.returns-in_err-said-clause-err
returns-in_err-said-clause-err g c =
    at_err c.from_residual.result (λ t known. front_nothing (picture_of t c.args.dir.now).text (g.K.ByteSink.taken c.args.sink.now))

pub returns-in-Unlisted-clause-ok : goal.returns-in-Unlisted-clause-ok
returns-in-Unlisted-clause-ok g c t known =
    by_survey t c.args.dir.now c.in_ok-said.said Unlisted (g.K.ByteSink.taken c.args.sink.now) (g.K.ByteSink.taken c.args.sink.now)
    (c.in_ok-said.ensures.said t known) c.in-Unlisted.is (nothing_told Unlisted (g.K.ByteSink.taken c.args.sink.now))

pub returns-in-NoSession-clause-ok : goal.returns-in-NoSession-clause-ok
returns-in-NoSession-clause-ok g c t known =
    by_survey t c.args.dir.now c.in_ok-said.said NoSession (g.K.ByteSink.taken c.args.sink.now) (g.K.ByteSink.taken c.args.sink.now)
    (c.in_ok-said.ensures.said t known) c.in-NoSession.is (nothing_told NoSession (g.K.ByteSink.taken c.args.sink.now))

pub returns-in_err-text-in-Faults-clause-err : goal.returns-in_err-text-in-Faults-clause-err
returns-in_err-text-in-Faults-clause-err g c =
    at_err c.from_residual-in_err-text-in-Faults.result (λ t known. front_nothing (picture_of t c.args.dir.now).text (g.K.ByteSink.taken c.args.sink.now))

pub returns-in_err-put_text-in-Faults-clause-err : goal.returns-in_err-put_text-in-Faults-clause-err
returns-in_err-put_text-in-Faults-clause-err g c =
    at_err c.from_residual-in_err-put_text-in-Faults.result (λ t known.
    front_by_survey t c.args.dir.now c.in_ok-said.said c.in-Faults.faults (g.K.ByteSink.taken c.args.sink.now) (g.K.ByteSink.taken c.put_text.new.sink)
    (c.in_ok-said.ensures.said t known) c.in-Faults.is
    (subst (λ (l : List ℕ). IsPrefixOut l (g.K.ByteSink.taken c.args.sink.now) (g.K.ByteSink.taken c.put_text.new.sink))
    (c.deref.ensures.value ∙ c.in_ok-text-in-Faults.ensures.text t (c.in_ok-said.ensures.tree ∙ known)) c.in_err-put_text-in-Faults.ensures.err))

pub returns-in_ok-put_text-in-Faults-clause-ok : goal.returns-in_ok-put_text-in-Faults-clause-ok
returns-in_ok-put_text-in-Faults-clause-ok g c t known =
    subst
    (λ (said : Surveyed). IsTold (picture_of t c.args.dir.now) (g.K.ByteSink.taken c.args.sink.now) (g.K.ByteSink.taken c.put_text.new.sink) said)
    c.in-Faults.is
    (by_survey t c.args.dir.now c.in_ok-said.said (Faults c.in-Faults.faults) (g.K.ByteSink.taken c.args.sink.now) (g.K.ByteSink.taken c.put_text.new.sink)
    (c.in_ok-said.ensures.said t known) c.in-Faults.is
    (record {
      out =
          c.in_ok-put_text-in-Faults.ensures.ok
          ∙ ap (and_then_bytes (g.K.ByteSink.taken c.args.sink.now))
          (c.deref.ensures.value ∙ c.in_ok-text-in-Faults.ensures.text t (c.in_ok-said.ensures.tree ∙ known));
      state_is = refl;
    }))
