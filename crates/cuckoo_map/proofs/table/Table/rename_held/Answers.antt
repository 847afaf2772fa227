use Rattle.std.proofs.Common.{rules, ◌≡◌, inl, inr, refl}
use Rattle.cuckoo_map.proofs.HeldKeys.{owns_name}
use Rattle.cuckoo_map.proofs.Renaming.{renamed_held, refused_held, bound_held}
use Rattle.cuckoo_map.proofs.table.Table.rename_held.Goals as goal

pub rename_among-requires-clause-first : goal.rename_among-requires-clause-first
rename_among-requires-clause-first g c = owns_name c.requires.held refl (g.K.TableKey.name c.args.from.now) (inl refl)

pub rename_among-requires-clause-second : goal.rename_among-requires-clause-second
rename_among-requires-clause-second g c = owns_name c.requires.held refl (g.K.TableKey.name c.args.to) (inr (inl refl))

pub returns-clause-held : goal.returns-clause-held
returns-clause-held g c =
    let there : c.rename_among.new.held.pass.now ≡ c.pass-1.given.0 = search rules in
    let e = c.rename_among.ensures in
    rw (← there) (renamed_held c.requires.held refl c.args.pass.now refl refl refl c.rename_among.new.held.pass.now e.stays.1 e.stays.2 c.rename_among.result e.call e.same).1

pub returns-clause-renamed : goal.returns-clause-renamed
returns-clause-renamed g c =
    let there : c.rename_among.new.held.pass.now ≡ c.pass-1.given.0 = search rules in
    let e = c.rename_among.ensures in
    rw (← there) (renamed_held c.requires.held refl c.args.pass.now refl refl refl c.rename_among.new.held.pass.now e.stays.1 e.stays.2 c.rename_among.result e.call e.same).0

pub returns-clause-bound : goal.returns-clause-bound
returns-clause-bound g c =
    let e = c.rename_among.ensures in
    bound_held c.requires.held refl c.args.pass.now refl refl refl c.rename_among.new.held.pass.now e.stays.1 e.stays.2 c.rename_among.result e.bound

pub returns-clause-full : goal.returns-clause-full
returns-clause-full g c =
    let there : c.rename_among.new.held.pass.now ≡ c.pass-1.given.0 = search rules in
    let e = c.rename_among.ensures in
    rw (← there) (refused_held c.requires.held refl c.args.pass.now refl refl refl c.rename_among.new.held.pass.now e.stays.1 e.stays.2 c.args.to c.rename_among.result e.full e.same)
