-- The entries of several stripes, one after another.
use Rattle.std.proofs.Common.{◌≡◌, inl, ℕ, zero, suc, ◌+◌, ◌<◌, ◌≤◌, List, [], ◌∷◌, ◌++◌, length, take, map, refl, sym, ◌∙◌, ap, subst, length-append, append-nil, append_assoc, add-one, arith}
use Rattle.std.specs.Prelude.{slice_index_or}
use Rattle.std.proofs.lemmas.List.{length-map, take_all}
use Rattle.ck_model.specs.declared.history.Call.TheVariants.{Len}
use Rattle.ck_model.specs.declared.history.Reply.TheVariants.{Count}
use Rattle.ck_model.specs.Promise.{Name}
use Rattle.ck_model.specs.Listing.{named}
use Rattle.ck_model.specs.Contents.{layout, Lawful, pairs_in, pairs_of}
use Rattle.ck_model.specs.Sections.{Section}
use Rattle.ck_model.proofs.Counted.{len-bindings}
use Rattle.ck_stripe.specs.Stripe.{StripeState}
use Rattle.ck_stripe.specs.Stripes.{stripe_at, contents_of}
use Rattle.ck_stripe.specs.Tables.{IsTable}
use Rattle.ck_stripe.proofs.Tables.{has_all, stripe_read}

module _ {V : Type 0} where
  -- the number of entries of the first n stripes
  abbrev pub entries_to : ℕ → List (StripeState V) → ℕ
  entries_to n stripes = length (pairs_of (contents_of (take n stripes)))

  -- the pairs of one stripe more
  pub pairs-next : (i : ℕ) (stripes : List (StripeState V)) → i < length stripes → pairs_of (contents_of (take (suc i) stripes)) ≡ pairs_of (contents_of (take i stripes)) ++ pairs_in (stripe_at stripes i).content
  pairs-next i [] lt = absurd (omega arith)
  pairs-next zero (t ∷ ts) lt = append-nil (pairs_in t.content)
  pairs-next (suc i) (t ∷ ts) lt = ap (λ es. pairs_in t.content ++ es) (pairs-next i ts (omega arith)) ∙ sym (append_assoc (pairs_in t.content) (pairs_of (contents_of (take i ts))) (pairs_in (stripe_at ts i).content))

  pub pairs_push : (ss : List (StripeState V)) (t : StripeState V) → pairs_of (contents_of ss) ++ pairs_in t.content ≡ pairs_of (contents_of (ss ++ t ∷ []))
  pairs_push [] t = sym (append-nil (pairs_in t.content))
  pairs_push (s ∷ ss) t = append_assoc (pairs_in s.content) (pairs_of (contents_of ss)) (pairs_in t.content) ∙ ap (λ es. pairs_in s.content ++ es) (pairs_push ss t)

  entries-next : (i : ℕ) (stripes : List (StripeState V)) → i < length stripes → entries_to (suc i) stripes ≡ entries_to i stripes + length (pairs_in (stripe_at stripes i).content)
  entries-next i stripes lt = ap length (pairs-next i stripes lt) ∙ length-append (pairs_of (contents_of (take i stripes))) (pairs_in (stripe_at stripes i).content)

  pub entries-below : (i : ℕ) (stripes : List (StripeState V)) → entries_to i stripes ≤ length (pairs_of (contents_of stripes))
  entries-below zero stripes = omega arith
  entries-below (suc i) [] = omega arith
  entries-below (suc i) (t ∷ ts) =
      let again = entries-below i ts in
      let less = length-append (pairs_in t.content) (pairs_of (contents_of (take i ts))) in
      let all = length-append (pairs_in t.content) (pairs_of (contents_of ts)) in
      omega arith

  -- there is room for the pairs of stripe i, and for four more
  pub room_for_stripe : {K : Type 0} (name : K → Name) (pairs start : List (K × V)) (i room : ℕ) (stripes : List (StripeState V)) (t : StripeState V) → i < length stripes → t ≡ slice_index_or stripes i t
      → map (named name) pairs ≡ map (named name) start ++ pairs_of (contents_of (take i stripes)) → length start + length (pairs_of (contents_of stripes)) + 4 ≤ room → length pairs + length (pairs_in t.content) + 4 ≤ room
  room_for_stripe name pairs start i room stripes t lt is seen enough =
      let many : length pairs ≡ length start + entries_to i stripes =
      sym (length-map pairs (named name)) ∙ (ap length seen ∙ (length-append (map (named name) start) (pairs_of (contents_of (take i stripes))) ∙ ap (λ n. n + entries_to i stripes) (length-map start (named name)))) in
      let next = entries-next i stripes lt in
      let most = entries-below (suc i) stripes in
      let same = ap (λ (u : StripeState V). length (pairs_in u.content)) (stripe_read stripes i t lt is) in
      omega arith

  pub entries_more : (i n : ℕ) (stripes : List (StripeState V)) → i < length stripes → n ≡ length (pairs_in (stripe_at stripes i).content) → entries_to (i + 1) stripes ≡ entries_to i stripes + n
  entries_more i n stripes lt is = ap (λ m. entries_to m stripes) (add-one i) ∙ entries-next i stripes lt ∙ ap (λ m. entries_to i stripes + m) (sym is)

  pub entries_all : (n : ℕ) (stripes : List (StripeState V)) → length stripes ≤ n → entries_to n stripes ≡ length (pairs_of (contents_of stripes))
  entries_all n stripes le = ap (λ (l : List (StripeState V)). length (pairs_of (contents_of l))) (take_all n stripes le)

  -- the number of entries of all stripes is that of the bound names
  pub counts_all : (hash : Name → ℕ) (s max : ℕ) (stripes new : List (StripeState V)) (n : ℕ) → IsTable s stripes → new ≡ stripes → n ≡ length (pairs_of (contents_of stripes))
      → Lawful (layout hash s max) (contents_of stripes) → Section (layout hash s max) (contents_of stripes) Len (Count n) (contents_of new)
  counts_all hash s max stripes new n table same is lawful = subst (λ (l : List (StripeState V)). Section (layout hash s max) (contents_of stripes) Len (Count n) (contents_of l)) (sym same) (record {
    renewed = record { same = refl; lawful = lawful; power = inl (λ t u c d h g. lawful.one_power u t d c g h) };
    owns = has_all hash s max stripes table;
    step = (ap Count (is ∙ sym (len-bindings (layout hash s max) (contents_of stripes) lawful)), refl);
  })
