use Rattle.std.proofs.Common.{◌≡◌, ◌∙◌, ap, inl, inr, map, option_map, subst, sym, Option, Some}
use Rattle.tr_command.specs.Invocation.{Audit, Describe, Picture, Recover, Task, folder_named, job_asked, job_of, task_of}
use Rattle.tr_program.specs.Runs.{HasFault, host_of, outside_of}
use Rattle.tr_program.proofs.DescribeLemmas.{describe_fault, nothing_described}
use Rattle.tr_program.proofs.RecoverLemmas.{recover_fault}
use Rattle.tr_program.proofs.RunLemmas.{audit_fault, cause_after, ends_without_memory, no_session, nothing_pictured, picture_fault}
use Rattle.tr_program.proofs.running.end.Goals as goal

pub returns-in_default-clause-ends : goal.returns-in_default-clause-ends
returns-in_default-clause-ends g c =
    ends_without_memory (job_asked (map (λ w. w.now) c.args.words.now))
    (outside_of g.S.ByteSource g.K.ByteSink g.D.Disk g.F.Folders g.T.Texts c.args.input.now c.args.out.now c.args.disk.now c.args.folders.now c.args.texts.now)

pub returns-in-Ok-Some-Audit-clause-no_session : goal.returns-in-Ok-Some-Audit-clause-no_session
returns-in-Ok-Some-Audit-clause-no_session g c is =
    let asked : Some (Audit c.in-Ok-Some-Audit.dir.now c.in-Ok-Some-Audit.archives) ≡ job_asked (map (λ w. w.now) c.args.words.now) =
    sym (ap (option_map task_of) (c.in-Ok-Some-Audit.field-0-is ∙ ap Some c.in-Ok-Some-Audit.field-0-0-is))
    ∙ c.in-Ok-Some-Audit.ensures.value ∙ ap (λ l. job_of (map (λ w. w.now) l)) c.as_slice.ensures.value ∙ ap job_of c.in-Ok.ensures in
    subst
    (λ (task : Option Task). HasFault task (outside_of g.S.ByteSource g.K.ByteSink g.D.Disk g.F.Folders g.T.Texts c.args.input.now c.args.out.now c.args.disk.now c.args.folders.now c.args.texts.now)
    (outside_of g.S.ByteSource g.K.ByteSink g.D.Disk g.F.Folders g.T.Texts c.args.input.now c.end_audit.new.out c.args.disk.now c.end_audit.new.folders c.args.texts.now))
    asked (inr (inl (inr (inr (no_session _ _ _ _ _ _ _ c.end_audit.ensures is)))))

pub returns-in-Ok-Some-Audit-clause-fault : goal.returns-in-Ok-Some-Audit-clause-fault
returns-in-Ok-Some-Audit-clause-fault g c is =
    let asked : Some (Audit c.in-Ok-Some-Audit.dir.now c.in-Ok-Some-Audit.archives) ≡ job_asked (map (λ w. w.now) c.args.words.now) =
    sym (ap (option_map task_of) (c.in-Ok-Some-Audit.field-0-is ∙ ap Some c.in-Ok-Some-Audit.field-0-0-is))
    ∙ c.in-Ok-Some-Audit.ensures.value ∙ ap (λ l. job_of (map (λ w. w.now) l)) c.as_slice.ensures.value ∙ ap job_of c.in-Ok.ensures in
    subst
    (λ (task : Option Task). HasFault task (outside_of g.S.ByteSource g.K.ByteSink g.D.Disk g.F.Folders g.T.Texts c.args.input.now c.args.out.now c.args.disk.now c.args.folders.now c.args.texts.now)
    (outside_of g.S.ByteSource g.K.ByteSink g.D.Disk g.F.Folders g.T.Texts c.args.input.now c.end_audit.new.out c.args.disk.now c.end_audit.new.folders c.args.texts.now))
    asked (elim (audit_fault _ _ _ _ _ _ _ c.end_audit.ensures is) [ inl writes ↦ inl (inl (inr writes)) | inr lacks ↦ inr (inl (elim lacks [ inl reads ↦ inl reads | inr hidden ↦ inr (inl hidden) ])) ])

pub returns-in-Ok-Some-Describe-clause-no_session : goal.returns-in-Ok-Some-Describe-clause-no_session
returns-in-Ok-Some-Describe-clause-no_session g c is =
    let asked : Some (Describe c.in-Ok-Some-Describe.events.now c.in-Ok-Some-Describe.dir.now) ≡ job_asked (map (λ w. w.now) c.args.words.now) =
    sym (ap (option_map task_of) (c.in-Ok-Some-Describe.field-0-is ∙ ap Some c.in-Ok-Some-Describe.field-0-0-is))
    ∙ c.in-Ok-Some-Describe.ensures.value ∙ ap (λ l. job_of (map (λ w. w.now) l)) c.as_slice.ensures.value ∙ ap job_of c.in-Ok.ensures in
    subst
    (λ (task : Option Task). HasFault task (outside_of g.S.ByteSource g.K.ByteSink g.D.Disk g.F.Folders g.T.Texts c.args.input.now c.args.out.now c.args.disk.now c.args.folders.now c.args.texts.now)
    (outside_of g.S.ByteSource g.K.ByteSink g.D.Disk g.F.Folders g.T.Texts c.args.input.now c.end_describe.new.out c.args.disk.now c.end_describe.new.folders c.end_describe.new.texts))
    asked (inr (inl (inl (inr (inr (nothing_described _ _ _ _ _ _ _ _ _ c.end_describe.ensures is))))))

pub returns-in-Ok-Some-Describe-clause-fault : goal.returns-in-Ok-Some-Describe-clause-fault
returns-in-Ok-Some-Describe-clause-fault g c is =
    let asked : Some (Describe c.in-Ok-Some-Describe.events.now c.in-Ok-Some-Describe.dir.now) ≡ job_asked (map (λ w. w.now) c.args.words.now) =
    sym (ap (option_map task_of) (c.in-Ok-Some-Describe.field-0-is ∙ ap Some c.in-Ok-Some-Describe.field-0-0-is))
    ∙ c.in-Ok-Some-Describe.ensures.value ∙ ap (λ l. job_of (map (λ w. w.now) l)) c.as_slice.ensures.value ∙ ap job_of c.in-Ok.ensures in
    subst
    (λ (task : Option Task). HasFault task (outside_of g.S.ByteSource g.K.ByteSink g.D.Disk g.F.Folders g.T.Texts c.args.input.now c.args.out.now c.args.disk.now c.args.folders.now c.args.texts.now)
    (outside_of g.S.ByteSource g.K.ByteSink g.D.Disk g.F.Folders g.T.Texts c.args.input.now c.end_describe.new.out c.args.disk.now c.end_describe.new.folders c.end_describe.new.texts))
    asked (elim (describe_fault _ _ _ _ _ _ _ _ _ c.end_describe.ensures is) [ inl told ↦ inl (inl (inr told)) | inr other ↦ inr other ])

pub returns-in-Ok-Some-Picture-clause-no_session : goal.returns-in-Ok-Some-Picture-clause-no_session
returns-in-Ok-Some-Picture-clause-no_session g c is =
    let asked : Some (Picture c.in-Ok-Some-Picture.dir.now) ≡ job_asked (map (λ w. w.now) c.args.words.now) =
    sym (ap (option_map task_of) (c.in-Ok-Some-Picture.field-0-is ∙ ap Some c.in-Ok-Some-Picture.field-0-0-is))
    ∙ c.in-Ok-Some-Picture.ensures.value ∙ ap (λ l. job_of (map (λ w. w.now) l)) c.as_slice.ensures.value ∙ ap job_of c.in-Ok.ensures in
    subst
    (λ (task : Option Task). HasFault task (outside_of g.S.ByteSource g.K.ByteSink g.D.Disk g.F.Folders g.T.Texts c.args.input.now c.args.out.now c.args.disk.now c.args.folders.now c.args.texts.now)
    (outside_of g.S.ByteSource g.K.ByteSink g.D.Disk g.F.Folders g.T.Texts c.args.input.now c.end_picture.new.out c.args.disk.now c.end_picture.new.folders c.args.texts.now))
    asked (inr (inl (inr (inr (nothing_pictured _ _ _ _ _ _ c.end_picture.ensures is)))))

pub returns-in-Ok-Some-Picture-clause-fault : goal.returns-in-Ok-Some-Picture-clause-fault
returns-in-Ok-Some-Picture-clause-fault g c is =
    let asked : Some (Picture c.in-Ok-Some-Picture.dir.now) ≡ job_asked (map (λ w. w.now) c.args.words.now) =
    sym (ap (option_map task_of) (c.in-Ok-Some-Picture.field-0-is ∙ ap Some c.in-Ok-Some-Picture.field-0-0-is))
    ∙ c.in-Ok-Some-Picture.ensures.value ∙ ap (λ l. job_of (map (λ w. w.now) l)) c.as_slice.ensures.value ∙ ap job_of c.in-Ok.ensures in
    subst
    (λ (task : Option Task). HasFault task (outside_of g.S.ByteSource g.K.ByteSink g.D.Disk g.F.Folders g.T.Texts c.args.input.now c.args.out.now c.args.disk.now c.args.folders.now c.args.texts.now)
    (outside_of g.S.ByteSource g.K.ByteSink g.D.Disk g.F.Folders g.T.Texts c.args.input.now c.end_picture.new.out c.args.disk.now c.end_picture.new.folders c.args.texts.now))
    asked (elim (picture_fault _ _ _ _ _ _ c.end_picture.ensures is) [ inl writes ↦ inl (inl (inr writes)) | inr lacks ↦ inr (inl (elim lacks [ inl reads ↦ inl reads | inr hidden ↦ inr (inl hidden) ])) ])

pub returns-clause-ends : goal.returns-clause-ends
returns-clause-ends g c =
    ends_without_memory (job_asked (map (λ w. w.now) c.args.words.now))
    (outside_of g.S.ByteSource g.K.ByteSink g.D.Disk g.F.Folders g.T.Texts c.args.input.now c.args.out.now c.args.disk.now c.args.folders.now c.args.texts.now)

pub returns-in-Ok-declared-clause-fault : goal.returns-in-Ok-declared-clause-fault
returns-in-Ok-declared-clause-fault g c is =
    inl (cause_after (host_of g.S.ByteSource g.K.ByteSink g.D.Disk c.args.input.now c.args.out.now c.args.disk.now)
    (host_of g.S.ByteSource g.K.ByteSink g.D.Disk c.end_script.new.input c.end_script.new.out c.end_script.new.disk) _ _
    c.in-Ok-declared.ensures.declares.1 (c.in-Ok-declared.ensures.no_fault (λ e. absurd cc)).0 (c.end_script.ensures.fault is))

pub returns-in-Some-clause-fault : goal.returns-in-Some-clause-fault
returns-in-Some-clause-fault g c is =
    let asked : Some (Recover (folder_named c.in-Ok-Some-Recover.uuid) c.in-Ok-Some-Recover.image.now c.in-Ok-Some-Recover.dir.now) ≡ job_asked (map (λ w. w.now) c.args.words.now) =
    sym (ap (option_map task_of) (c.in-Ok-Some-Recover.field-0-is ∙ ap Some c.in-Ok-Some-Recover.field-0-0-is))
    ∙ c.in-Ok-Some-Recover.ensures.value ∙ ap (λ l. job_of (map (λ w. w.now) l)) c.as_slice.ensures.value ∙ ap job_of c.in-Ok.ensures in
    subst
    (λ (task : Option Task). HasFault task (outside_of g.S.ByteSource g.K.ByteSink g.D.Disk g.F.Folders g.T.Texts c.args.input.now c.args.out.now c.args.disk.now c.args.folders.now c.args.texts.now)
    (outside_of g.S.ByteSource g.K.ByteSink g.D.Disk g.F.Folders g.T.Texts c.args.input.now c.end_recover.new.out c.end_recover.new.disk c.end_recover.new.folders c.args.texts.now))
    asked (elim (recover_fault _ _ _ _ _ _ _ _ _ _ c.end_recover.ensures is) [
      | inl failed ↦ elim failed [ inl out ↦ inl (inl (inr out)) | inr disk ↦ inl (inr (inl disk)) ]
      | inr lacks ↦ inr (inl (elim lacks [ inl reads ↦ inl reads | inr hidden ↦ inr (inl hidden) ]))
    ])
