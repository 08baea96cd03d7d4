use Rattle.std.proofs.Common.{◌≡◌, ◌++◌, ◌∙◌, ℕ, List, Option, length, map, ap, sym, subst, append_assoc, string_bytes}
use Rattle.std.proofs.lemmas.List.{length-map}
use Rattle.std.proofs.lemmas.Result.{IfOk-weaker, on_err_weaker}
use Rattle.tr_folders.specs.Tree.{by_text}
use Rattle.tr_record.specs.Bytes.{and_then_bytes}
use Rattle.tr_survey.specs.Heads.{deleted_of, head_told, wrong_lines}
use Rattle.tr_survey.specs.Identifiers.{uuid_of}
use Rattle.tr_survey.specs.Lines.{session_text, source_text}
use Rattle.tr_survey.specs.Listing.{key_of}
use Rattle.tr_survey.specs.Prefix.{IsPrefixOut, IsTold}
use Rattle.tr_survey.specs.Told.{and_faults, faults_told, text_of_lines}
use Rattle.tr_survey.proofs.PrefixLemmas.{at_err, front_cut, front_step}
use Rattle.tr_survey.proofs.TellLemmas.{both_out}
use Rattle.tr_survey.proofs.sessions.put_head.Goals as goal

pub returns-in_err-put_line-clause-err : goal.returns-in_err-put_line-clause-err
returns-in_err-put_line-clause-err g c =
    let identity = c.args.identity.now in
    let archives = map key_of c.args.archives.now in
    let streams = map key_of c.args.streams.now in
    let S = session_text c.args.session.now (uuid_of identity) (length archives) in
    let O = source_text identity in
    let D = deleted_of archives in
    let L = wrong_lines (uuid_of identity) archives c.args.namings.now streams in
    let begins : string_bytes c.in_ok-head.head ≡ S =
    c.in_ok-head.ensures ∙ ap (λ (o : Option (List ℕ)). session_text c.args.session.now o (length c.args.archives.now)) (c.as_ref-2.ensures.value ∙ c.uuid-uuid.ensures)
    ∙ ap (session_text c.args.session.now (uuid_of identity)) (sym (length-map c.args.archives.now key_of)) in
    let head : c.as_str-2.result.now ≡ (S ++ O) ++ D =
    c.as_str-2.ensures.value ∙ c.in_ok-push_str-2.ensures.bytes
    ∙ ap (λ (l : List ℕ). string_bytes c.push_str.new.self ++ l) (c.as_str.ensures.value ∙ c.in_ok-deleted.ensures)
    ∙ ap (λ (l : List ℕ). l ++ D)
    (c.in_ok-push_str.ensures.bytes ∙ ap (λ (l : List ℕ). string_bytes c.in_ok-head.head ++ l) c.source_line.ensures ∙ ap (λ (l : List ℕ). l ++ O) begins) in
    let parts : S ++ (O ++ (D ++ text_of_lines L)) ≡ c.as_str-2.result.now ++ text_of_lines L =
    sym (append_assoc S O (D ++ text_of_lines L)) ∙ sym (append_assoc (S ++ O) D (text_of_lines L)) ∙ ap (λ (l : List ℕ). l ++ text_of_lines L) (sym head) in
    at_err c.from_residual-in_err-put_line.result (front_cut _ c.as_str-2.result.now (text_of_lines L) _ _ parts c.in_err-put_line.ensures.err)

pub returns-clause-ok : goal.returns-clause-ok
returns-clause-ok g c =
    let identity = c.args.identity.now in
    let archives = map key_of c.args.archives.now in
    let streams = map key_of c.args.streams.now in
    let S = session_text c.args.session.now (uuid_of identity) (length archives) in
    let O = source_text identity in
    let D = deleted_of archives in
    let L = wrong_lines (uuid_of identity) archives c.args.namings.now streams in
    let begins : string_bytes c.in_ok-head.head ≡ S =
    c.in_ok-head.ensures ∙ ap (λ (o : Option (List ℕ)). session_text c.args.session.now o (length c.args.archives.now)) (c.as_ref-2.ensures.value ∙ c.uuid-uuid.ensures)
    ∙ ap (session_text c.args.session.now (uuid_of identity)) (sym (length-map c.args.archives.now key_of)) in
    let head : c.as_str-2.result.now ≡ (S ++ O) ++ D =
    c.as_str-2.ensures.value ∙ c.in_ok-push_str-2.ensures.bytes
    ∙ ap (λ (l : List ℕ). string_bytes c.push_str.new.self ++ l) (c.as_str.ensures.value ∙ c.in_ok-deleted.ensures)
    ∙ ap (λ (l : List ℕ). l ++ D)
    (c.in_ok-push_str.ensures.bytes ∙ ap (λ (l : List ℕ). string_bytes c.in_ok-head.head ++ l) c.source_line.ensures ∙ ap (λ (l : List ℕ). l ++ O) begins) in
    let parts : S ++ (O ++ (D ++ text_of_lines L)) ≡ c.as_str-2.result.now ++ text_of_lines L =
    sym (append_assoc S O (D ++ text_of_lines L)) ∙ sym (append_assoc (S ++ O) D (text_of_lines L)) ∙ ap (λ (l : List ℕ). l ++ text_of_lines L) (sym head) in
    let same : by_text c.deref.result.now ≡ L =
    ap by_text c.deref.ensures.value ∙ c.in_ok-lines.ensures
    ∙ ap (λ (o : Option (List ℕ)). wrong_lines o archives c.args.namings.now streams) (c.as_ref.ensures.value ∙ c.uuid-uuid.ensures) in
    IfOk-weaker c.put_faults.result
    (λ n. IsTold (faults_told c.args.faults (by_text c.deref.result.now)) (g.K.ByteSink.taken c.put_line.new.sink) (g.K.ByteSink.taken c.put_faults.new.sink) n)
    (λ n. IsTold (head_told c.args.session.now identity archives c.args.namings.now streams c.args.faults) (g.K.ByteSink.taken c.args.sink.now) (g.K.ByteSink.taken c.put_faults.new.sink) n)
    (λ n told. record {
      out = both_out _ (g.K.ByteSink.taken c.put_line.new.sink) _ c.as_str-2.result.now (text_of_lines L) _ c.in_ok-put_line.ensures.ok
          (subst (λ (l : List (List ℕ)). g.K.ByteSink.taken c.put_faults.new.sink ≡ and_then_bytes (g.K.ByteSink.taken c.put_line.new.sink) (text_of_lines l)) same told.out) parts;
      state_is = told.state_is ∙ ap (and_faults c.args.faults) same;
    })
    c.put_faults.ensures.ok

pub returns-clause-err : goal.returns-clause-err
returns-clause-err g c =
    let identity = c.args.identity.now in
    let archives = map key_of c.args.archives.now in
    let streams = map key_of c.args.streams.now in
    let S = session_text c.args.session.now (uuid_of identity) (length archives) in
    let O = source_text identity in
    let D = deleted_of archives in
    let L = wrong_lines (uuid_of identity) archives c.args.namings.now streams in
    let begins : string_bytes c.in_ok-head.head ≡ S =
    c.in_ok-head.ensures ∙ ap (λ (o : Option (List ℕ)). session_text c.args.session.now o (length c.args.archives.now)) (c.as_ref-2.ensures.value ∙ c.uuid-uuid.ensures)
    ∙ ap (session_text c.args.session.now (uuid_of identity)) (sym (length-map c.args.archives.now key_of)) in
    let head : c.as_str-2.result.now ≡ (S ++ O) ++ D =
    c.as_str-2.ensures.value ∙ c.in_ok-push_str-2.ensures.bytes
    ∙ ap (λ (l : List ℕ). string_bytes c.push_str.new.self ++ l) (c.as_str.ensures.value ∙ c.in_ok-deleted.ensures)
    ∙ ap (λ (l : List ℕ). l ++ D)
    (c.in_ok-push_str.ensures.bytes ∙ ap (λ (l : List ℕ). string_bytes c.in_ok-head.head ++ l) c.source_line.ensures ∙ ap (λ (l : List ℕ). l ++ O) begins) in
    let parts : S ++ (O ++ (D ++ text_of_lines L)) ≡ c.as_str-2.result.now ++ text_of_lines L =
    sym (append_assoc S O (D ++ text_of_lines L)) ∙ sym (append_assoc (S ++ O) D (text_of_lines L)) ∙ ap (λ (l : List ℕ). l ++ text_of_lines L) (sym head) in
    let same : by_text c.deref.result.now ≡ L =
    ap by_text c.deref.ensures.value ∙ c.in_ok-lines.ensures
    ∙ ap (λ (o : Option (List ℕ)). wrong_lines o archives c.args.namings.now streams) (c.as_ref.ensures.value ∙ c.uuid-uuid.ensures) in
    on_err_weaker c.put_faults.result (λ front.
    front_step _ c.as_str-2.result.now (text_of_lines L) _ _ _ parts c.in_ok-put_line.ensures.ok
    (subst (λ (l : List (List ℕ)). IsPrefixOut (text_of_lines l) (g.K.ByteSink.taken c.put_line.new.sink) (g.K.ByteSink.taken c.put_faults.new.sink)) same front))
    c.put_faults.ensures.err
