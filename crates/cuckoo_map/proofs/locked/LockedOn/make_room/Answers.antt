use Rattle.std.proofs.Common.{◌≡◌, ◌∙◌, sym, ap, subst}
use Rattle.ck_model.specs.declared.settings.Settings.{Settings}
use Rattle.cuckoo_map.specs.Locking.{LockedState, SeeksRoom}
use Rattle.cuckoo_map.proofs.Sessions.{sought_locked, keeps_map, has_room, lacks_room, grows_for}
use Rattle.cuckoo_map.proofs.locked.LockedOn.make_room.Given.{Over}
use Rattle.cuckoo_map.proofs.locked.LockedOn.make_room.Goals as goal

sought : (g : Over) (c : goal.After-make_room_in g) → SeeksRoom g.K.TableKey.hash (g.T.TableRef.state c.self.inside.table).settings (g.K.TableKey.name c.args.key.now) c.make_room_in.result c.self.inside.whole.stripes c.make_room_in.new.held.stripes
sought g c =
    subst (λ (set : Settings). SeeksRoom g.K.TableKey.hash set (g.K.TableKey.name c.args.key.now) c.make_room_in.result c.self.inside.whole.stripes c.make_room_in.new.held.stripes)
    (c.settings-settings.ensures.value ∙ sym (ap (λ (l : LockedState g.row.V.Denot). l.caller.table.settings) c.self.view_is)) c.make_room_in.ensures.room

-- nothing but the stripes may have changed
left : (g : Over) (c : goal.After-make_room_in g) → c.make_room_in.new.held ≡ record c.self.inside.whole { stripes = c.make_room_in.new.held.stripes }
left g c = λ i. record { table = c.make_room_in.ensures.stays.0 i; view = c.make_room_in.ensures.stays.1 i; stripes = c.make_room_in.new.held.stripes }

pub invariant_of-self : goal.invariant_of-self
invariant_of-self g c =
    sought_locked g.K.TableKey.hash (g.T.TableRef.state c.self.inside.table) c.self.inside.whole c.self.invariant (g.K.TableKey.name c.args.key.now) c.make_room_in.result c.make_room_in.new.held (left g c) (sought g c)

pub returns-clause-kept : goal.returns-clause-kept
returns-clause-kept g c =
    keeps_map g.K.TableKey.hash (g.T.TableRef.state c.self.inside.table) c.self.inside.whole c.self.invariant (g.K.TableKey.name c.args.key.now) c.make_room_in.result c.make_room_in.new.held (left g c) (sought g c) c.args.self.now c.self.view_is

pub returns-clause-room : goal.returns-clause-room
returns-clause-room g c =
    has_room g.K.TableKey.hash (g.T.TableRef.state c.self.inside.table) c.self.inside.whole c.self.invariant (g.K.TableKey.name c.args.key.now) c.make_room_in.result c.make_room_in.new.held (left g c) (sought g c)

pub returns-clause-refused : goal.returns-clause-refused
returns-clause-refused g c =
    lacks_room g.K.TableKey.hash (g.T.TableRef.state c.self.inside.table) c.self.inside.whole c.self.invariant (g.K.TableKey.name c.args.key.now) c.make_room_in.result c.make_room_in.new.held (left g c) (sought g c) c.args.self.now c.self.view_is

pub returns-clause-grows : goal.returns-clause-grows
returns-clause-grows g c =
    grows_for g.K.TableKey.hash (g.T.TableRef.state c.self.inside.table) c.self.inside.whole c.self.invariant (g.K.TableKey.name c.args.key.now) c.make_room_in.result c.make_room_in.new.held (left g c) (sought g c) c.args.self.now c.self.view_is
