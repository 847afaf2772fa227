use Rattle.std.proofs.Common.{Bor, ◌≡◌, ◌∙◌, refl, ap, subst}
use Rattle.std.proofs.lemmas.Result.{IfErr-weaker}
use Rattle.ck_model.specs.Promise.{Name}
use Rattle.ck_model.specs.Numbered.{IsIn}
use Rattle.cuckoo_map.specs.LockedKeys.{LacksSlot, name_at}
use Rattle.cuckoo_map.proofs.UpdatedKeys.{shown_at}
use Rattle.cuckoo_map.proofs.locked_keys.LockedKeysOn+T+K+V+ref+K.put.Goals as goal

pub insert_or_assign-requires : goal.insert_or_assign-requires
insert_or_assign-requires g c =
    let there = shown_at (λ (k : Bor g.row.K.Denot). g.K.TableKey.name k.now) c.self.inside.keys.now _ c.self.inside.pass _ c.self.view_is c.args.i c.index-keys-i.result c.requires.inside c.index-keys-i.is in
    record { named = subst (λ (k : Bor g.row.K.Denot). IsIn (g.K.TableKey.name k.now) c.args.self.now.names) c.index-keys-i.is there.0 }

pub returns-clause-refused : goal.returns-clause-refused
returns-clause-refused g c =
    let there = shown_at (λ (k : Bor g.row.K.Denot). g.K.TableKey.name k.now) c.self.inside.keys.now _ c.self.inside.pass _ c.self.view_is c.args.i c.index-keys-i.result c.requires.inside c.index-keys-i.is in
    let named = subst (λ (k : Bor g.row.K.Denot). g.K.TableKey.name k.now ≡ name_at c.args.self.now c.args.i) c.index-keys-i.is there.1 in
    IfErr-weaker c.insert_or_assign.result _ _
    (λ back lacks. (
      ap g.K.TableKey.name lacks.key_back ∙ named,
      subst (λ (q : Name). LacksSlot g.K.TableKey.hash q back.key c.args.value c.args.self.now c.insert_or_assign.new.self back) named
          (record { key_back = refl; value_back = lacks.value_back; unchanged = lacks.unchanged; full = lacks.full }),
    ))
    c.insert_or_assign.ensures.refused
