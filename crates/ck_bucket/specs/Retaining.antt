-- What becomes of slots where a closure is asked about each of their pairs whether it stays.
use Rattle.std.specs.Prelude.{◌≡◌, Bool, if◌then◌else◌, List, [], ◌∷◌, Some, None}
use Rattle.std.specs.Borrow.{Bor}
use Rattle.std.specs.Fn.{Called, Mut}
use Rattle.ck_model.specs.Promise.{Name}
use Rattle.ck_model.specs.Slots.{Slot}

-- Each element of old became that of new, one after the other, and the steps led from s to t.
abbrev pub EachInTurn : {S A : Type 0} → (S → A → A → S → Type 0) → S → List A → List A → S → Type 0
EachInTurn R s [] [] t = t ≡ s
EachInTurn R s [] (b ∷ new) t = ⊥
EachInTurn R s (a ∷ old) [] t = ⊥
EachInTurn {S} R s (a ∷ old) (b ∷ new) t = (u : S) × R s a b u × EachInTurn R u old new t

module _ {F K V : Type 0} (g : Mut F (Bor K × (Bor V × Unit {0})) Bool) where
  -- a call of f at a `&` to k and a `&` to v may return b, and leave f as f'; the value stays
  pub record CalledAtPair (f : F) (k : K) (v : V) (b : Bool) (w : V) (f' : F) : Type 0 where
    pub key : Bor K
    pub value : Bor V
    pub shows : (key.now ≡ k) × (value.now ≡ v)
    pub called : Called g f (key, (value, tt)) b f'
    pub stays : w ≡ v

  module _ (name : K → Name) where
    -- f was asked about the pair in the slot, if there is one, which stays where the answer is true
    abbrev pub AsksAboutSlot : F → Slot V → Slot V → F → Type 0
    AsksAboutSlot f None after f' = (after ≡ None) × (f' ≡ f)
    AsksAboutSlot f (Some e) after f' = (k : K) × (b : Bool) × (name k ≡ e.0) × CalledAtPair f k e.1 b e.1 f' × (after ≡ (if b then Some e else None))

    -- and so slot by slot
    abbrev pub AsksAboutRow : F → List (Slot V) → List (Slot V) → F → Type 0
    AsksAboutRow = EachInTurn AsksAboutSlot

    -- and row by row
    abbrev pub AsksAboutRows : F → List (List (Slot V)) → List (List (Slot V)) → F → Type 0
    AsksAboutRows = EachInTurn AsksAboutRow
