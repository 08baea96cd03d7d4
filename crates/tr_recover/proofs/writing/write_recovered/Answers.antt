use Rattle.std.proofs.Common.{◌≡◌, ◌∙◌, ◌∷◌, [], ap, refl, subst}
use Rattle.std.specs.Prelude.{codes}
use Rattle.std.specs.String.{string_bytes}
use Rattle.std.proofs.lemmas.Result.{on_err_weaker, on_ok_weaker}
use Rattle.tr_export.proofs.MakingLemmas.{OnErr-always, front_none}
use Rattle.tr_recover.proofs.MadeLemmas.{IsFor, all_made, first_of_all, metadata_cut, others_of, streams_cut}
use Rattle.tr_export.specs.Making.{MadePrefix, and_then_made}
use Rattle.tr_export.specs.Paths.{path_of}
use Rattle.tr_export.specs.declared.made.Made.TheVariants.{Folder}
use Rattle.tr_recover.specs.Archive.{recovered_made, streams_made}
use Rattle.tr_recover.proofs.writing.write_recovered.Goals as goal

pub returns-in_err-folder-clause-err : goal.returns-in_err-folder-clause-err
returns-in_err-folder-clause-err g c =
    OnErr-always c.from_residual.result
    (front_none (g.D.Disk.made c.args.disk.now) (g.D.Disk.made c.args.disk.now) (recovered_made c.args.dir.now c.args.metadata.now c.args.packets.now) refl)

pub returns-in_err-path-clause-err : goal.returns-in_err-path-clause-err
returns-in_err-path-clause-err g c =
    OnErr-always c.from_residual-in_err-path.result
    (front_none (g.D.Disk.made c.args.disk.now) (g.D.Disk.made c.args.disk.now) (recovered_made c.args.dir.now c.args.metadata.now c.args.packets.now) refl)

pub returns-in_err-make_folder-clause-err : goal.returns-in_err-make_folder-clause-err
returns-in_err-make_folder-clause-err g c =
    OnErr-always c.from_residual-in_err-make_folder.result
    (front_none (g.D.Disk.made c.args.disk.now) (g.D.Disk.made c.make_folder.new.self)
    (recovered_made c.args.dir.now c.args.metadata.now c.args.packets.now) c.in_err-make_folder.ensures.err)

pub returns-in_err-write_streams-clause-err : goal.returns-in_err-write_streams-clause-err
returns-in_err-write_streams-clause-err g c =
    let dir = c.args.dir.now in
    let metadata = c.args.metadata.now in
    let packets = c.args.packets.now in
    let folder = string_bytes c.in_ok-folder.folder in
    let path = string_bytes c.in_ok-path.path in
    let start = g.D.Disk.made c.args.disk.now in
    let one = g.D.Disk.made c.make_folder.new.self in
    let it : IsFor dir folder path packets = record {
      first = c.first-item.result;
      others = others_of packets;
      are = first_of_all packets c.first-item.result c.in-len1-up.len_at_least c.first-item.is;
      folder_is = c.in_ok-folder.ensures;
      path_is = c.in_ok-path.ensures ∙ ap (λ t. path_of t (codes "metadata")) c.as_str.ensures.value;
    } in
    let first : one ≡ and_then_made start (Folder folder ∷ []) =
    c.in_ok-make_folder.ensures.ok ∙ ap (λ t. and_then_made start (Folder t ∷ [])) c.as_str-2.ensures.value in
    OnErr-always c.from_residual-in_err-write_streams.result
    (streams_cut dir metadata folder path packets start one (g.D.Disk.made c.write_streams.new.disk) it first
    (subst (λ t. MadePrefix one (g.D.Disk.made c.write_streams.new.disk) (streams_made t packets)) c.as_str-3.ensures.value
    c.in_err-write_streams.ensures.err))

pub returns-clause-ok : goal.returns-clause-ok
returns-clause-ok g c =
    let dir = c.args.dir.now in
    let metadata = c.args.metadata.now in
    let packets = c.args.packets.now in
    let folder = string_bytes c.in_ok-folder.folder in
    let path = c.as_str-4.result.now in
    let start = g.D.Disk.made c.args.disk.now in
    let one = g.D.Disk.made c.make_folder.new.self in
    let it : IsFor dir folder path packets = record {
      first = c.first-item.result;
      others = others_of packets;
      are = first_of_all packets c.first-item.result c.in-len1-up.len_at_least c.first-item.is;
      folder_is = c.in_ok-folder.ensures;
      path_is = c.as_str-4.ensures.value ∙ c.in_ok-path.ensures ∙ ap (λ t. path_of t (codes "metadata")) c.as_str.ensures.value;
    } in
    let first : one ≡ and_then_made start (Folder folder ∷ []) =
    c.in_ok-make_folder.ensures.ok ∙ ap (λ t. and_then_made start (Folder t ∷ [])) c.as_str-2.ensures.value in
    let two = g.D.Disk.made c.write_streams.new.disk in
    let second : two ≡ and_then_made one (streams_made folder packets) =
    c.in_ok-write_streams.ensures.ok ∙ ap (λ t. and_then_made one (streams_made t packets)) c.as_str-3.ensures.value in
    on_ok_weaker c.write_file.result
    (all_made dir metadata folder path packets start one two (g.D.Disk.made c.write_file.new.disk) it first second) c.write_file.ensures.ok

pub returns-clause-err : goal.returns-clause-err
returns-clause-err g c =
    let dir = c.args.dir.now in
    let metadata = c.args.metadata.now in
    let packets = c.args.packets.now in
    let folder = string_bytes c.in_ok-folder.folder in
    let path = c.as_str-4.result.now in
    let start = g.D.Disk.made c.args.disk.now in
    let one = g.D.Disk.made c.make_folder.new.self in
    let it : IsFor dir folder path packets = record {
      first = c.first-item.result;
      others = others_of packets;
      are = first_of_all packets c.first-item.result c.in-len1-up.len_at_least c.first-item.is;
      folder_is = c.in_ok-folder.ensures;
      path_is = c.as_str-4.ensures.value ∙ c.in_ok-path.ensures ∙ ap (λ t. path_of t (codes "metadata")) c.as_str.ensures.value;
    } in
    let first : one ≡ and_then_made start (Folder folder ∷ []) =
    c.in_ok-make_folder.ensures.ok ∙ ap (λ t. and_then_made start (Folder t ∷ [])) c.as_str-2.ensures.value in
    let two = g.D.Disk.made c.write_streams.new.disk in
    let second : two ≡ and_then_made one (streams_made folder packets) =
    c.in_ok-write_streams.ensures.ok ∙ ap (λ t. and_then_made one (streams_made t packets)) c.as_str-3.ensures.value in
    on_err_weaker c.write_file.result
    (metadata_cut dir metadata folder path packets start one two (g.D.Disk.made c.write_file.new.disk) it first second) c.write_file.ensures.err
