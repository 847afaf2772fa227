-- What an insertion leaves of its pass that found its name without room and has tried since to make some.
use Rattle.std.proofs.Common.{◌≡◌, ◌⊎◌, ℕ, List, [], ◌∷◌, ◌++◌, append_assoc, inl, inr, refl, sym, ap, ◌∙◌, subst}
use Rattle.std.specs.Prelude.{All, Contains}
use Rattle.std.proofs.lemmas.List.Elements.{All-nil, All-cons, All-append, Contains-push, Contains-append_left}
use Rattle.ck_model.specs.declared.history.Reason.{Reason}
use Rattle.ck_model.specs.declared.history.Reason.TheVariants as reason
use Rattle.ck_model.specs.declared.history.Reason.TheVariants.{NoRoom}
use Rattle.ck_model.specs.Promise.{Name}
use Rattle.ck_model.specs.Contents.{Stripes}
use Rattle.ck_core.specs.declared.view.RoomNote.{RoomNote}
use Rattle.ck_core.specs.Steps.{noted}
use Rattle.ck_words.specs.Words.{WordsState}
use Rattle.ck_words.specs.Passes.{PassState, IsPassOf, IsIdle}
use Rattle.ck_words.specs.Retries.{StaysBut, as_doubled}
use Rattle.ck_words.specs.Closing.{IsCaller}
use Rattle.ck_words.proofs.Staying.{last_since, held_since, stays_then}
use Rattle.cuckoo_map.specs.declared.room.Room.{Room}
use Rattle.ck_refusal.specs.declared.refusal.Why.{Why}
use Rattle.ck_refusal.specs.declared.refusal.Why.TheVariants.{Busy, Memory, Full, LoadTooLow}
use Rattle.cuckoo_map.specs.Refusals.{reason_of, SaysOf, FindsOwnUnlessFull, SaysNoRoom, GivesGrounds, ShowsWhy, IsRefused}
use Rattle.ck_core.specs.declared.view.View.{View}
use Rattle.cuckoo_map.specs.Needed.{HasGrownFor}
use Rattle.cuckoo_map.specs.Insertions.{HasFoundNoRoom, SayFull, HoldsRoom, HasRoom, HasSoughtRoom}
use Rattle.cuckoo_map.proofs.Counted.{loosely, stays_counting, grown_since}
use Rattle.cuckoo_map.specs.Displacing.{FindsAny, IsBackBut, IsBack}
use Rattle.cuckoo_map.proofs.Displacing.{any_on, back_same, back_then}

module _ {V : Type 0} (q : Name) where
  -- the note that the name's buckets were full in stripes that contained this
  abbrev pub full_in : Stripes V → RoomNote V
  full_in hs = noted q NoRoom hs

  one_own : (hs : Stripes V) → SayFull q (full_in hs ∷ [])
  one_own hs = All-cons (SaysOf q NoRoom) (full_in hs) [] (refl, refl) (All-nil _)

  own_append : (xs ys : List (RoomNote V)) → SayFull q xs → SayFull q ys → SayFull q (xs ++ ys)
  own_append xs ys a b = All-append (SaysOf q NoRoom) xs ys a b

module _ {V : Type 0} (q : Name) where
  -- The pass is back, and has noted nothing of room but that the name's buckets were full.
  pub record HasTried (w : WordsState) (p p2 : PassState V) : Type 0 where
    pub more : List (RoomNote V)
    pub own : SayFull q more
    pub back : IsBackBut w more p p2

  module _ (w : WordsState) where
    pub tried_same : (p : PassState V) → IsPassOf w p → IsIdle p → HasTried w p p
    tried_same p own idle = record { more = []; own = All-nil _; back = back_same w p own idle }

    pub tried_on : (p r z : PassState V) → HasTried w p r → IsBack w r z → HasTried w p z
    tried_on p r z h back = record { more = h.more; own = h.own; back = back_then w h.more [] p r z h.back back }

    pub tried_full : (p r z : PassState V) → HasTried w p r → IsPassOf w z → IsIdle z → HasFoundNoRoom q r z → FindsAny r z → HasTried w p z
    tried_full p r z h own idle full found = record {
      more = full_in q full.0 ∷ h.more;
      own = own_append q (full_in q full.0 ∷ []) h.more (one_own q full.0) h.own;
      back = back_then w h.more (full_in q full.0 ∷ []) p r z h.back (record { own = own; idle = idle; stays = full.1; found = found });
    }

    -- after a round, it looked again and found no room
    pub tried_again : (p t d r z : PassState V) → HasTried w p t → IsBack w t d → r ≡ d → IsPassOf w z → IsIdle z → HasFoundNoRoom q r z → FindsAny r z → HasTried w p z
    tried_again p t d r z h back same own idle full found = tried_full p r z (subst (HasTried w p) (sym same) (tried_on p t d h back)) own idle full found

    pub still_caller : (p z : PassState V) → IsCaller w p → HasTried w p z → IsCaller w z
    still_caller p z c h = record {
      own = h.back.own;
      idle = h.back.idle;
      alone = h.back.stays.others ∙ c.alone;
      number = (c.number.0, h.back.stays.by ∙ c.number.1, c.number.2);
    }

    -- since p the name's buckets were full, p1 tried to make room until r, and was then z
    module _ (hash : Name → ℕ) (p p1 r z : PassState V) (full : HasFoundNoRoom q p p1) (any : FindsAny p p1) (h : HasTried w p1 r) (more : List (RoomNote V)) (stays : StaysBut more (as_doubled r z).view z.view) where
      -- the first note
      abbrev first : RoomNote V
      first = full_in q full.0

      abbrev said : List (RoomNote V)
      said = (more ++ h.more) ++ first ∷ []

      -- until it had tried
      stays_until : StaysBut (h.more ++ first ∷ []) p.view r.view
      stays_until = stays_then (first ∷ []) h.more p.view p1.view r.view full.1 h.back.stays

      said_on : (v : View V) → StaysBut (more ++ (h.more ++ first ∷ [])) v z.view → StaysBut said v z.view
      said_on v s = subst (λ (l : List (RoomNote V)). StaysBut l v z.view) (sym (append_assoc more h.more (first ∷ []))) s

      stays_since : StaysBut said (as_doubled p z).view z.view
      stays_since = said_on (as_doubled p z).view (stays_then (h.more ++ first ∷ []) more (as_doubled p z).view (as_doubled r z).view z.view (stays_counting z.view stays_until) stays)

      own_since : SayFull q more → SayFull q said
      own_since a = own_append q (more ++ h.more) (first ∷ []) (own_append q more h.more a h.own) (one_own q full.0)

      says_full : Contains said first
      says_full = Contains-push (more ++ h.more) first

      any_since : FindsAny p r
      any_since = any_on p p1 r any h.back.found

      -- any stripe may have been found held
      pub found_since_full : FindsAny r z → FindsOwnUnlessFull hash w.settings q p z
      found_since_full f =
          let all = any_on p r z any_since f in
          (all.0, all.1, (λ t i. inr (said, full.0, stays_since.no_slot, says_full)))

      pub room_since : {room : Room} → StaysBut more r.view z.view → SayFull q more → HoldsRoom hash w.settings q room z → HasRoom hash w.settings q room p z
      room_since level a held = record { more = said; own = own_since a; stays = said_on p.view (stays_then (h.more ++ first ∷ []) more p.view r.view z.view stays_until level); held = held }

      -- room may have been sought for it
      pub sought_since : SayFull q more → HasGrownFor hash w.settings q r z → HasSoughtRoom hash w.settings q p z
      sought_since a grown = record { more = said; own = own_since a; stays = stays_since; grown = grown_since p r z stays_until grown }

      -- among what was said is that its buckets were full
      pub says_no_room : SaysNoRoom q p z
      says_no_room = (said, full.0, stays_since.no_slot, says_full)

      -- what was noted of room since is noted of it in all
      grounds_since : (why : Reason) → GivesGrounds hash w.settings q why more r z → GivesGrounds hash w.settings q why said p z
      grounds_since why g = record {
        contents = g.contents;
        is_noted = let x : RoomNote V = noted q why g.contents in Contains-append_left (more ++ h.more) (first ∷ []) x (Contains-append_left more h.more x g.is_noted);
        grounds = g.grounds;
        after = g.after;
        held = (g.held.0, held_since w.settings.s r.view.watched p.view.watched z.view.seen g.held.0 g.contents z.view (stays_until.watched.0, stays_until.watched.1) g.held.1);
        power = g.power;
      }

      shows_since : (why : Why) → ShowsWhy hash w.settings q why more r z → ShowsWhy hash w.settings q why said p z
      shows_since (Busy t) s = (s.0, last_since w.settings.turns t p r z stays_until.by h.back.own.2 stays_until.watched s.1, s.2, s.3 ∙ stays_until.doublings, s.4)
      shows_since Memory s = grounds_since reason.Memory s
      shows_since Full s = grounds_since reason.Full s
      shows_since LoadTooLow s = grounds_since reason.LoadTooLow s

      pub refused_since : (why : Why) → All (λ (x : RoomNote V). SaysOf q NoRoom x ⊎ SaysOf q (reason_of why) x) more → ShowsWhy hash w.settings q why more r z → HasGrownFor hash w.settings q r z → IsRefused hash w.settings q why p z
      refused_since why a shown grown =
          let Own : RoomNote V → Type 0 = λ x. SaysOf q NoRoom x ⊎ SaysOf q (reason_of why) x in
          let one : SayFull q (first ∷ []) = one_own q full.0 in
          let before : All Own (more ++ h.more) = All-append Own more h.more a (λ i d l. inl (h.own i d l)) in
          record { more = said; stays = stays_since; own = All-append Own (more ++ h.more) (first ∷ []) before (λ i d l. inl (one i d l)); shown = shows_since why shown; grown = grown_since p r z stays_until grown }

    -- the same of what was left since
    module _ (hash : Name → ℕ) (p p1 r z : PassState V) (full : HasFoundNoRoom q p p1) (any : FindsAny p p1) (h : HasTried w p1 r) where
      pub room_after : {room : Room} → HasRoom hash w.settings q room r z → HasRoom hash w.settings q room p z
      room_after has = room_since hash p p1 r z full any h has.more (loosely has.stays) has.stays has.own has.held

      pub refused_after : (why : Why) → IsRefused hash w.settings q why r z → IsRefused hash w.settings q why p z
      refused_after why said = refused_since hash p p1 r z full any h said.more said.stays why said.own said.shown said.grown
