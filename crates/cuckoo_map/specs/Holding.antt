-- A pass while a call holds the stripes of its key.
use Rattle.std.specs.Prelude.{◌≡◌, ◌↔◌, ℕ, List, []}
use Rattle.ck_key.specs.Hashes.{IsHashOf}
use Rattle.ck_model.specs.declared.settings.Settings.{Settings}
use Rattle.ck_model.specs.Promise.{Name}
use Rattle.ck_model.specs.Numbered.{IsIn}
use Rattle.ck_model.specs.Contents.{layout_of, IsStripeOf}
use Rattle.ck_model.specs.Sections.{Owns}
use Rattle.ck_section.specs.declared.place.KeyPlace.{KeyPlace}
use Rattle.ck_stripe.specs.Stripes.{contents_of}
use Rattle.ck_stripe.specs.Tables.{AreHeld}
use Rattle.ck_section.specs.Places.{IsPlaceOf}
use Rattle.ck_core.specs.declared.view.RoomNote.{RoomNote}
use Rattle.ck_words.specs.Passes.{PassState, IsUnchanged, numbers_of}
use Rattle.ck_words.specs.StripeNumbers.{own_numbers}
use Rattle.ck_words.specs.StripeSets.{list_of}
use Rattle.ck_words.specs.Retries.{StaysBut}
use Rattle.cuckoo_map.specs.declared.locking.KeyStripes.{KeyStripes}
use Rattle.cuckoo_map.specs.declared.locking.Spot.{Spot}
use Rattle.cuckoo_map.specs.Needed.{HaveOnePower}

-- the hash of the name, and its stripes
pub record AreStripesOf (hash : Name → ℕ) (set : Settings) (q : Name) (own : KeyStripes) : Type 0 where
  pub s : own.stripes.s ≡ set.s
  pub hashed : IsHashOf hash q own.hash
  pub list : list_of own.stripes ≡ own_numbers set.s (hash q)
  pub exact : (t : ℕ) → IsIn t (list_of own.stripes) ↔ IsStripeOf (layout_of hash set) q t

module _ {V : Type 0} where
  -- Since p the pass has taken the stripes of the name, and has settled them. The name may be at this place among them.
  -- It has noted more that names found no room.
  pub record HoldsKeyBut (more : List (RoomNote V)) (hash : Name → ℕ) (set : Settings) (q : Name) (place : KeyPlace) (p p2 : PassState V) : Type 0 where
    pub stays : StaysBut more p.view p2.view
    pub both : Owns (layout_of hash set) (contents_of p2.stripes) q
    pub at : IsPlaceOf hash p2.stripes q place
    pub s : place.s ≡ set.s
    pub unchanged : IsUnchanged p2
    pub one_power : HaveOnePower p2.stripes

  -- and it has noted so of none more
  abbrev pub HoldsKey : (Name → ℕ) → Settings → Name → KeyPlace → PassState V → PassState V → Type 0
  HoldsKey = HoldsKeyBut []

  -- Since p the pass has taken these stripes, which are those of the name. It may be at this place among them.
  pub record HasSpot (hash : Name → ℕ) (set : Settings) (q : Name) (spot : Spot) (p p2 : PassState V) : Type 0 where
    pub holds : HoldsKey hash set q spot.place p p2
    pub of_table : spot.stripes.s ≡ set.s
    pub numbered : numbers_of p2.stripes ≡ list_of spot.stripes
    pub settled : AreHeld set.s p2.stripes
