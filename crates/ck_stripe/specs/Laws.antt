-- What is proved of a doubling of contents.
use Rattle.std.specs.Prelude.{◌≡◌, ℕ, ◌<◌}
use Rattle.std.specs.List.Sorted.{IsPermutation}
use Rattle.std.specs.FinMap.{find}
use Rattle.ck_model.specs.Promise.{Name, name_cmp}
use Rattle.ck_model.specs.declared.contents.Content.{Content}
use Rattle.ck_model.specs.Contents.{Layout, pairs_in, IsSound}
use Rattle.ck_stripe.specs.Doubling.{doubled_content, SendsEach}

module _ (V : Type 0) where
  -- a sound content is sound at the next power
  abbrev pub DoublingKeepsSound : Type 0
  DoublingKeepsSound = (k : Layout) (t : ℕ) (c : Content V) → IsSound k t c → c.power < k.max → IsSound k t (doubled_content k.hash k.s t c)

  -- it has the same pairs, in some order
  abbrev pub DoublingKeepsPairs : Type 0
  DoublingKeepsPairs = (hash : Name → ℕ) (s t : ℕ) (c : Content V) → IsPermutation (pairs_in c) (pairs_in (doubled_content hash s t c))

  -- it has the same of each name
  abbrev pub DoublingKeepsBindings : Type 0
  DoublingKeepsBindings = (k : Layout) (t : ℕ) (c : Content V) → IsSound k t c → (q : Name) → find name_cmp q (pairs_in (doubled_content k.hash k.s t c)) ≡ find name_cmp q (pairs_in c)

  -- each entry goes to its name's bucket at the next power
  abbrev pub DoublingSendsEach : Type 0
  DoublingSendsEach = (k : Layout) (t : ℕ) (c : Content V) → IsSound k t c → SendsEach k.hash k.s t c (doubled_content k.hash k.s t c)
