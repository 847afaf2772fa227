-- Keys that are locked once there is room for each of them.
use Rattle.std.specs.Prelude.{◌≡◌, ◌⊎◌, ℕ, zero, suc, ◌+◌, ◌<◌, List, [], ◌∷◌, map, Bool, true, false}
use Rattle.std.specs.Borrow.{Bor}
use Rattle.ck_model.specs.declared.lack.Lack.{Lack}
use Rattle.ck_model.specs.declared.lack.Lack.TheVariants as lacks
use Rattle.ck_model.specs.declared.settings.Settings.{Settings}
use Rattle.ck_model.specs.Promise.{Name}
use Rattle.ck_model.specs.Contents.{layout_of}
use Rattle.ck_stripe.specs.Stripes.{contents_of}
use Rattle.ck_section.specs.Room.{IsLack}
use Rattle.ck_section.specs.RoomForAll.{HasRoomForAll}
use Rattle.ck_words.specs.declared.stripe_set.StripeSet.{StripeSet}
use Rattle.ck_words.specs.Passes.{PassState}
use Rattle.ck_words.specs.Retries.{Stays, as_doubled, FindsAmong}
use Rattle.ck_words.specs.Closing.{IsWhole}
use Rattle.ck_refusal.specs.declared.refusal.RoomFault.{RoomFault}
use Rattle.ck_refusal.specs.declared.refusal.RoomFault.TheVariants.{Keys, Room}
use Rattle.ck_refusal.specs.declared.refusal.Why.{Why}
use Rattle.ck_refusal.specs.declared.refusal.Why.TheVariants.{Busy, Memory, Full, LoadTooLow}
use Rattle.cuckoo_map.specs.Refusals.{IsStripeIn, IsBusyAmong, IsRefused}
use Rattle.cuckoo_map.specs.Insertions.{HasSoughtRoom}
use Rattle.cuckoo_map.specs.SeveralKeys.{IsStripeOfAny, HoldsNames, RefusesNames}

-- the names of keys that are lent
abbrev pub names_of : {K : Type 0} → (K → Name) → List (Bor K) → List Name
names_of {K} name keys = map (λ (k : Bor K). name k.now) keys

-- the stripes of these names, or all
abbrev pub IsStripeTried : (Name → ℕ) → Settings → List Name → Bool → ℕ → Type 0
IsStripeTried hash set qs false = IsStripeOfAny hash set qs
IsStripeTried hash set qs true = IsStripeIn set

module _ {V : Type 0} where
  -- since p room was sought for each of the names in turn
  abbrev pub SeeksRoomForEach : (Name → ℕ) → Settings → List Name → PassState V → PassState V → Type 0
  SeeksRoomForEach hash set [] p p2 = p2 ≡ p
  SeeksRoomForEach hash set (q ∷ qs) p p2 = (m : PassState V) × HasSoughtRoom hash set q p m × SeeksRoomForEach hash set qs m p2

  -- since p room was sought for some of the names in turn, and the next one was refused it, as an insertion is
  abbrev pub LacksRoomForOne : (Name → ℕ) → Settings → List Name → Why → PassState V → PassState V → Type 0
  LacksRoomForOne hash set [] why p p2 = ⊥
  LacksRoomForOne hash set (q ∷ qs) why p p2 = IsRefused hash set q why p p2 ⊎ ((m : PassState V) × HasSoughtRoom hash set q p m × LacksRoomForOne hash set qs why m p2)

  -- since p the stripes of the names were taken, which had too little room for all, and were given back as they were
  abbrev pub LacksRoomForAll : (Name → ℕ) → Settings → List Name → PassState V → PassState V → Type 0
  LacksRoomForAll hash set qs p p2 =
      ((m : PassState V) × (stripes : StripeSet) × HoldsNames hash set qs stripes p m × ¬ (HasRoomForAll (layout_of hash set) (contents_of m.stripes) qs) × Stays m.view p2.view)
      × FindsAmong (IsStripeOfAny hash set qs) p p2

  -- since p nothing was done, or there was too little room for all names, and it was sought for each
  abbrev pub MakesRoomForEach : (Name → ℕ) → Settings → List Name → PassState V → PassState V → Type 0
  MakesRoomForEach hash set qs p p2 = (p2 ≡ p) ⊎ ((m : PassState V) × LacksRoomForAll hash set qs p m × SeeksRoomForEach hash set qs m p2)

  -- since p there was too little room for all names, it was sought for each, and there was too little again
  abbrev pub LacksRoomStill : (Name → ℕ) → Settings → List Name → PassState V → PassState V → Type 0
  LacksRoomStill hash set qs p p2 = (m m2 : PassState V) × LacksRoomForAll hash set qs p m × SeeksRoomForEach hash set qs m m2 × LacksRoomForAll hash set qs m2 p2

  -- Since p the pass took all stripes. They had too little room for all names, and this is why they don't grow for it, or what they lack to grow.
  pub record HoldsTooLittle (hash : Name → ℕ) (set : Settings) (qs : List Name) (lack : Lack) (p p2 : PassState V) : Type 0 where
    pub stays : Stays p.view p2.view
    pub whole : IsWhole hash set p2
    pub no_room : ¬ (HasRoomForAll (layout_of hash set) (contents_of p2.stripes) qs)
    pub reason : IsLack set.max set.min_load p2.stripes lack

  -- Since p all stripes were taken so, where nothing but memory could be lacking, and the table doubled once. The caller noted what they had contained.
  pub record GrowsForAll (hash : Name → ℕ) (set : Settings) (qs : List Name) (p p2 : PassState V) : Type 0 where
    pub held : PassState V
    pub too_little : HoldsTooLittle hash set qs lacks.Memory p held
    pub stays : Stays (as_doubled p p2).view p2.view
    pub made : p2.view.doublings ≡ p.view.doublings + 1
    pub noted : p2.view.grown_from ≡ contents_of held.stripes ∷ p.view.grown_from
    pub told : p.view.told < p2.view.told

  -- since p the table grew for the names so many times, each time when there was too little room for all still
  abbrev pub GrowsTimes : (Name → ℕ) → Settings → List Name → ℕ → PassState V → PassState V → Type 0
  GrowsTimes hash set qs zero p p2 = p2 ≡ p
  GrowsTimes hash set qs (suc n) p p2 = (m m2 : PassState V) × GrowsTimes hash set qs n p m × LacksRoomStill hash set qs m m2 × GrowsForAll hash set qs m2 p2

  -- Since p the table may have grown for the names, and room may have been sought for each. Then their stripes are tried, or all, where there was too little room for all still.
  abbrev pub SeeksRoom : (Name → ℕ) → Settings → List Name → Bool → PassState V → PassState V → Type 0
  SeeksRoom hash set qs false p p2 = (n : ℕ) × (m : PassState V) × GrowsTimes hash set qs n p m × MakesRoomForEach hash set qs m p2
  SeeksRoom hash set qs true p p2 = (n : ℕ) × (m : PassState V) × GrowsTimes hash set qs n p m × LacksRoomStill hash set qs m p2

  -- since p all stripes were taken so, and given back as they were
  abbrev pub LacksToGrow : (Name → ℕ) → Settings → List Name → Lack → PassState V → PassState V → Type 0
  LacksToGrow hash set qs lack p p2 = (m : PassState V) × HoldsTooLittle hash set qs lack p m × Stays m.view p2.view

  -- Why the table didn't grow for the names: a stripe was busy, or all stripes were taken, and this is why they didn't.
  abbrev pub IsNotGrown : (Name → ℕ) → Settings → List Name → Why → PassState V → PassState V → Type 0
  IsNotGrown hash set qs (Busy t) p p2 = IsBusyAmong (IsStripeIn set) set t p p2
  IsNotGrown hash set qs Memory p p2 = LacksToGrow hash set qs lacks.Memory p p2
  IsNotGrown hash set qs Full p p2 = LacksToGrow hash set qs lacks.Full p p2
  IsNotGrown hash set qs LoadTooLow p p2 = LacksToGrow hash set qs lacks.LoadTooLow p p2

  -- Why the names were not locked where the table doesn't grow for them: as a call on them is refused, or as an insertion of one of them is for which room was sought.
  abbrev pub RefusesRoomForEach : (Name → ℕ) → Settings → List Name → PassState V → PassState V → RoomFault → Type 0
  RefusesRoomForEach hash set qs p p2 (Keys why) = (m : PassState V) × MakesRoomForEach hash set qs p m × RefusesNames hash set qs m p2 why
  RefusesRoomForEach hash set qs p p2 (Room why) = (m : PassState V) × LacksRoomForAll hash set qs p m × LacksRoomForOne hash set qs why m p2

  -- Why the names were not locked with room for each: so, the table having grown for them so many times, or since it doesn't grow once more.
  abbrev pub RefusesRoom : (Name → ℕ) → Settings → List Name → PassState V → PassState V → RoomFault → Type 0
  RefusesRoom hash set qs p p2 fault =
      ((n : ℕ) × (m : PassState V) × GrowsTimes hash set qs n p m × RefusesRoomForEach hash set qs m p2 fault)
      ⊎ ((why : Why) × (m : PassState V) × (fault ≡ Room why) × SeeksRoom hash set qs true p m × IsNotGrown hash set qs why m p2)
