use Rattle.std.proofs.Common.{◌≡◌, ◌∙◌, sym, ap}
use Rattle.ck_model.specs.declared.settings.Settings.{Settings}
use Rattle.cuckoo_map.specs.Locking.{LockedState}
use Rattle.cuckoo_map.proofs.LockedGrowing.{doubled_locked, rehashed, refused}
use Rattle.cuckoo_map.proofs.locked.LockedOn.rehash.Given.{Over}
use Rattle.cuckoo_map.proofs.locked.LockedOn.rehash.Goals.{in-Ok, in-Err}
use Rattle.cuckoo_map.proofs.locked.LockedOn.rehash.Goals as goal

of_table : (g : Over) (c : goal.Joined-double_in g) → ◌≡◌ {A = Settings} c.settings-s.result (g.T.TableRef.state c.self.inside.table).settings
of_table g c = c.settings-s.ensures.value ∙ sym (ap (λ (l : LockedState g.row.V.Denot). l.caller.table.settings) c.self.view_is)

pub invariant_of-self : goal.invariant_of-self
invariant_of-self g c = doubled_locked c.self.invariant c.double_in.new.whole c.double_in.ensures.same (of_table g c) c.if-max-power.false c.double_in.ensures.held c.double_in.ensures.no_call

pub returns : goal.returns
returns g c =
    elim c.match-double_in.branch [
      | in-Ok w ↦ rehashed c.self.invariant c.double_in.new.whole c.double_in.ensures.same (of_table g c) c.if-max-power.false c.double_in.ensures.held c.double_in.ensures.no_call c.self.view_is
          c.match-double_in.result w.in-Ok.grown w.result-is w.in-Ok.ensures.reached
      | in-Err w ↦ refused c.self.invariant c.double_in.new.whole c.double_in.ensures.same (of_table g c) c.if-max-power.false c.double_in.ensures.held c.double_in.ensures.no_call c.self.view_is
          c.match-double_in.result w.result-is w.in-Err.ensures.short
    ]
