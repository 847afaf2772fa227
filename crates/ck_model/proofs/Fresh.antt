-- A stripe of free slots alone.
use Rattle.std.proofs.Common.{◌≡◌, ℕ, ◌-◌, ◌^◌, ◌<◌, ◌≤◌, zero, suc, List, [], None, length, replicate, refl, sym, ◌∙◌, ap, subst}
use Rattle.std.specs.Prelude.{flat_map}
use Rattle.std.proofs.lemmas.List.{length-replicate}
use Rattle.std.proofs.lemmas.List.Elements.{All-replicate}
use Rattle.std.proofs.lemmas.Option.{none-some}
use Rattle.ck_model.specs.Slots.{Slot, slot_at, taken_in}
use Rattle.ck_model.specs.declared.contents.Content.{Content}
use Rattle.ck_model.specs.Contents.{Layout, row_at, IsSound, NamesApart}

module _ {V : Type 0} where
  abbrev pub free_bucket : List (Slot V)
  free_bucket = replicate 4 None

  -- the content of a stripe of n free buckets
  abbrev pub fresh : ℕ → ℕ → Content V
  fresh p n = record { power = p; rows = replicate n free_bucket; ledger = 0 }

  free_slot : (n i : ℕ) → slot_at {V = V} (replicate n None) i ≡ None
  free_slot zero i = refl
  free_slot (suc n) zero = refl
  free_slot (suc n) (suc i) = free_slot n i

  pub free_entry : (n r i : ℕ) → slot_at (row_at (replicate n free_bucket) r) i ≡ None
  free_entry zero r i = refl
  free_entry (suc n) zero i = free_slot 4 i
  free_entry (suc n) (suc r) i = free_entry n r i

  pub no_pairs : (n : ℕ) → flat_map taken_in (replicate n free_bucket) ≡ []
  no_pairs zero = refl
  no_pairs (suc n) = no_pairs n

  pub sound-fresh : (k : Layout) (t p : ℕ) → t < 2 ^ k.s → k.s ≤ p → p ≤ k.max → IsSound k t (fresh p (2 ^ (p - k.s)))
  sound-fresh k t p number least most = record {
    number = number;
    most = most;
    shaped = record {
      least = least;
      rows = length-replicate (2 ^ (p - k.s)) free_bucket;
      four = All-replicate (λ (row : List (Slot V)). length row ≡ 4) (2 ^ (p - k.s)) free_bucket refl;
      ledger = ap length (sym (no_pairs (2 ^ (p - k.s))));
    };
    placed = λ r i q v e. absurd (none-some (q, v) (sym (free_entry (2 ^ (p - k.s)) r i) ∙ e));
    apart = subst NamesApart (sym (no_pairs (2 ^ (p - k.s)))) tt;
  }
