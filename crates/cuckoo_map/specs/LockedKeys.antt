-- Some names under one caller.
use Rattle.std.specs.Prelude.{◌≡◌, ◌<◌, ℕ, List, [], reverse, get_or, Option, Some}
use Rattle.std.specs.FinMap.{get}
use Rattle.ck_model.specs.declared.contents.Content.{Content}
use Rattle.ck_model.specs.declared.history.Act.{Act}
use Rattle.ck_model.specs.declared.history.Call.{Call}
use Rattle.ck_model.specs.declared.history.Call.TheVariants.{SessionOn}
use Rattle.ck_model.specs.declared.history.Reply.{Reply}
use Rattle.ck_model.specs.Promise.{Name, bound_in}
use Rattle.ck_model.specs.Numbered.{IsIn, AreDistinct, numbers, Holds}
use Rattle.ck_model.specs.Contents.{layout_of, Lawful, bindings, power_of}
use Rattle.ck_stripe.specs.Stripes.{contents_of}
use Rattle.ck_stripe.specs.Tables.{AreHeld}
use Rattle.ck_section.specs.Places.{HasBoth}
use Rattle.ck_section.specs.RoomForAll.{HasRoomForAll}
use Rattle.ck_words.specs.declared.stripe_set.StripeSet.{StripeSet}
use Rattle.ck_words.specs.StripeSets.{list_of}
use Rattle.ck_words.specs.Words.{WordsState}
use Rattle.ck_words.specs.Passes.{PassState, IsPassOf, numbers_of}
use Rattle.ck_model.specs.Paths.{HasNoRoom}
use Rattle.ck_refusal.specs.declared.refusal.NoSlot.{NoSlot}
use Rattle.cuckoo_map.specs.Callers.{CallerState, IsSameCaller, StaysAsIs, FindsHeldAmong}
use Rattle.cuckoo_map.specs.Locking.{LockedState, locked_of, start_of, map_of, HasActed}

-- The names, and what a whole table shows that is locked: the caller, what the stripes contained when they were locked, and the stripes. They are those of the names, or all.
pub record KeysState (V : Type 0) : Type 0 where
  pub names : List Name
  pub session : LockedState V

module _ {V : Type 0} where
  -- the names, locked by this pass
  abbrev pub keys_of : WordsState → List Name → PassState V → KeysState V
  keys_of w names p = record { names = names; session = locked_of w p }

  -- what the names were bound to when they were locked, in their order
  abbrev pub values_before : KeysState V → List (Option V)
  values_before k = bound_in (start_of k.session) k.names

  -- what they are bound to
  abbrev pub values_now : KeysState V → List (Option V)
  values_now k = bound_in (map_of k.session) k.names

  -- the session so far
  abbrev pub keys_call : KeysState V → Call V
  keys_call k = SessionOn k.names (values_before k) (values_now k)

  -- the name at this position
  abbrev pub name_at : KeysState V → ℕ → Name
  name_at k i = get_or k.names i []

  -- what the name is bound to
  abbrev pub value_of : KeysState V → Name → Option V
  value_of k q = get (map_of k.session) q

  -- from k to l a call on the name was made with this reply
  abbrev pub ActsOn : Name → KeysState V → KeysState V → Act V → Reply V → Type 0
  ActsOn q k l act reply = HasActed q k.session l.session act reply

  -- One bucket of each name, or both together, have a free slot for each of the names that may come there, so that no insertion of one is refused.
  abbrev pub HasRoomForNames : (Name → ℕ) → KeysState V → Type 0
  HasRoomForNames hash k = HasRoomForAll (layout_of hash k.session.caller.table.settings) (contents_of k.session.stripes) k.names

  -- where there was room for all the names, there is
  abbrev pub KeepsRoom : (Name → ℕ) → KeysState V → KeysState V → Type 0
  KeepsRoom hash k l = HasRoomForNames hash k → HasRoomForNames hash l

  -- The key came back with the value: nothing changed, and its name, which is unbound, has no free slot.
  pub record LacksSlot {K X : Type 0} (hash : Name → ℕ) (q : Name) (key : K) (x : X) (k l : KeysState V) (back : NoSlot K X) : Type 0 where
    pub key_back : back.key ≡ key
    pub value_back : back.value ≡ x
    pub unchanged : l ≡ k
    pub full : HasNoRoom (layout_of hash k.session.caller.table.settings) (contents_of k.session.stripes) q

  -- The caller has locked the names. They are different, and nothing has changed. It found no stripe held but such ones.
  pub record HasLockedKeys (P : ℕ → Type 0) (qs : List Name) (c : CallerState V) (k : KeysState V) : Type 0 where
    pub names : k.names ≡ qs
    pub different : AreDistinct qs
    pub same : IsSameCaller c k.session.caller
    pub stays : StaysAsIs c k.session.caller
    pub found : FindsHeldAmong P c k.session.caller
    pub unchanged : map_of k.session ≡ start_of k.session

  -- The pass of a caller holds these stripes, those of the names among them, settled. What they contain is lawful, with the power of when they were taken, and no other name is bound otherwise than then.
  pub record HoldsKeys (hash : Name → ℕ) (w : WordsState) (stripes : StripeSet) (names : List Name) (p : PassState V) : Type 0 where
    pub own : IsPassOf w p
    pub alone : p.view.others ≡ []
    pub number : (m : ℕ) × (p.view.by ≡ Some m) × (m < w.settings.callers)
    pub different : AreDistinct names
    pub owned : (q : Name) → IsIn q names → HasBoth hash w.settings.s p.stripes q
    pub of_table : stripes.s ≡ w.settings.s
    pub numbered : numbers_of p.stripes ≡ list_of stripes
    pub settled : AreHeld w.settings.s p.stripes
    pub same : numbers (contents_of p.stripes) ≡ numbers (reverse p.view.held)
    pub lawful : Lawful (layout_of hash w.settings) (contents_of p.stripes)
    pub level : (t : ℕ) (c : Content V) → Holds (reverse p.view.held) t c → c.power ≡ power_of (contents_of p.stripes)
    pub others : (q : Name) → ¬ (IsIn q names) → get (bindings (contents_of p.stripes)) q ≡ get (bindings (reverse p.view.held)) q
