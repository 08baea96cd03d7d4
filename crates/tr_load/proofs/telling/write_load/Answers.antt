use Rattle.std.proofs.Common.{rules, ◌≡◌, ℕ, List, Bor, Some, codes, option_map, sym, subst}
use Rattle.tr_load.specs.Telling.{WritesLoad, disk_of}
use Rattle.tr_load.proofs.TellLemmas.{written_as}
use Rattle.tr_load.proofs.telling.write_load.Goals as goal

-- the archives are those of a session of that name
pub returns : goal.returns
returns g c =
    let before = disk_of g.D.Disk c.args.disk.now in let after = disk_of g.D.Disk c.write_archives.new.disk in
    let is : c.args.dir ≡ Some c.in-Some.dir = search rules in
    let named : c.in-Some-new.name ≡ codes "load" = search rules in
    subst (λ d. WritesLoad (option_map (λ (b : Bor (List ℕ)). b.now) d) c.args.session.now before after c.write_archives.result)
    (sym is) (
      written_as c.in-Some.dir.now c.in-Some-new.name c.args.session.now before after c.write_archives.result named
          c.write_archives.ensures.ok c.write_archives.ensures.err,
      c.write_archives.ensures.failures,
    )
