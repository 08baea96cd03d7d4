use Rattle.std.proofs.Common.{◌∙◌, List, Ok, Err, ap, refl, sym}
use Rattle.std.proofs.lemmas.Result.{err_from_is_err_and}
use Rattle.tr_session.proofs.RunAgreement.{refused-alike}
use Rattle.tr_session.proofs.RunLemmas.{channels-more, channels-end, declared-new, declares-new}
use Rattle.tr_session.proofs.run.configure.Goals as goal
use Rattle.tr_session.specs.Runs.{configure_channels}
use Rattle.tr_session.specs.Session.{SessionOf}
use Rattle.tr_session.specs.declared.config.ChannelConfig.{ChannelConfig}
use Rattle.tr_stream.specs.Rules.{by_state}
use Rattle.tr_stream.specs.State.{StreamState}

pub channels-init : goal.channels-init
channels-init g c = refl

pub returns-in_err-declare-clause-refused : goal.returns-in_err-declare-clause-refused
returns-in_err-declare-clause-refused g c =
    let config = c.args.config.now in
    let fault = c.in_err-declare.field-0.0 in
    let p = err_from_is_err_and c.from_residual.result c.from_residual.ensures.1 in
    rw (p.1, p.2) (λ not_memory. absurd (declares-new config.uuid config.offset config.mode config.events c.new-session.result fault
    c.new-session.ensures (c.in_err-declare.ensures.refused not_memory)))

pub returns-in-Err-clause-refused : goal.returns-in-Err-clause-refused
returns-in-Err-clause-refused g c = λ not_memory.
    let is = channels-more by_state c.deref-channel-items.result.now c.channels.channel-index c.channel-item.result
    c.channels.session (Err c.in-Err.fault) _ c.channels-test.true c.channel-item.is c.channels.invariant
    (c.in-Err.ensures.refused not_memory) in
    let config = c.args.config.now in
    let declared = declared-new config.uuid config.offset config.mode config.events c.new-session.result c.declare.new.self
    c.new-session.ensures c.in_ok-declare.ensures.ok in
    refused-alike config c.in-Err.fault (
    ap (λ (s : SessionOf StreamState). configure_channels by_state config.channels.items s) (sym declared)
    ∙ ap (λ (cs : List ChannelConfig). configure_channels by_state cs c.declare.new.self) (sym c.deref-channel-items.ensures.value) ∙ sym is)

pub channels-preserved : goal.channels-preserved
channels-preserved g c =
    channels-more by_state c.deref-channel-items.result.now c.channels.channel-index c.channel-item.result
    c.channels.session (Ok c.add_configured.new.session) _ c.channels-test.true c.channel-item.is c.channels.invariant
    c.in_default.ensures.ok

pub returns-clause-ok : goal.returns-clause-ok
returns-clause-ok g c =
    let config = c.args.config.now in
    let declared = declared-new config.uuid config.offset config.mode config.events c.new-session.result c.declare.new.self
    c.new-session.ensures c.in_ok-declare.ensures.ok in
    ap (λ (s : SessionOf StreamState). configure_channels by_state config.channels.items s) (sym declared)
    ∙ ap (λ (cs : List ChannelConfig). configure_channels by_state cs c.declare.new.self) (sym c.deref-channel-items.ensures.value)
    ∙ channels-end by_state c.deref-channel-items.result.now c.channels.channel-index c.channels.session _ c.channels-test.false c.channels.invariant
