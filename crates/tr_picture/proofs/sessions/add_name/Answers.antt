use Rattle.std.proofs.Common.{◌≡◌, ◌++◌, ◌∙◌, List, true, map, ap, sym, subst, arith}
use Rattle.std.proofs.lemmas.Result.{on_ok_weaker}
use Rattle.tr_folders.specs.Tree.{by_text}
use Rattle.tr_picture.proofs.LineLemmas.{opened_lines}
use Rattle.tr_picture.specs.Sessions.{Line, archives_lines, seen}
use Rattle.tr_survey.specs.Listing.{IsListing, archives_of, key_of}
use Rattle.tr_survey.specs.Order.{Numbered}
use Rattle.tr_survey.specs.Paths.{archives_folder}
use Rattle.tr_survey.specs.declared.listing.Listing.{Listing}
use Rattle.tr_terms.specs.Names.{is_name}
use Rattle.tr_picture.proofs.sessions.add_name.Goals as goal

pub returns-clause-found : goal.returns-clause-found
returns-clause-found g c =
    let q = c.as_str-folder.result.now in
    let path : q ≡ archives_folder c.args.dir.now c.args.name.now = c.as_str-folder.ensures.value ∙ c.in_ok-folder.ensures in
    let named : is_name c.args.name.now ≡ true = grind (arith, c.new.ensures.succeeds, c.is_none.ensures, c.if-is_none.false) in
    let names = by_text c.in-Names.names.items in
    on_ok_weaker c.add_archives.result
    (λ found t known.
    let is = subst (λ (l : Listing). IsListing t q l) c.in-Names.is (c.in_ok-listing_at.ensures.is t known) in
    let known1 = c.in_ok-listing_at.ensures.tree ∙ known in
    let archives : map key_of c.deref-2.result.now ≡ archives_of t q names =
    ap (map key_of) c.deref-2.ensures.value ∙ c.in_ok-archives.ensures.archives t known1
    ∙ ap (λ l. archives_of t q (by_text l)) c.deref.ensures.value in
    found t (c.in_ok-archives.ensures.tree ∙ known1)
    ∙ ap (λ (l : List Numbered). map seen c.args.found.now.items ++ archives_lines c.args.frame.now t c.args.name.now q l) archives
    ∙ ap (λ (l : List Line). map seen c.args.found.now.items ++ l)
    (sym (opened_lines c.args.frame.now t c.args.dir.now c.args.name.now q names named path is.0 is.1)))
    c.add_archives.ensures.found
