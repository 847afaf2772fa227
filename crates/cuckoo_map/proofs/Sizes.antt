-- The number of keys that all stripes bind.
use Rattle.std.proofs.Common.{◌≡◌, ℕ, ◌-◌, ◌*◌, ◌^◌, ◌≤◌, List, [], ◌∷◌, length, inl, inr, refl, sym, ap, ◌∙◌, subst, arith}
use Rattle.std.proofs.lemmas.List.{length-map, length-append}
use Rattle.std.proofs.Math.Pow.{pow_mono}
use Rattle.ck_model.specs.declared.contents.Content.{Content}
use Rattle.ck_model.specs.declared.history.Call.TheVariants.{Len}
use Rattle.ck_model.specs.declared.history.Reply.TheVariants.{Count}
use Rattle.ck_model.specs.declared.settings.Settings.{Settings}
use Rattle.ck_model.specs.Promise.{Name}
use Rattle.ck_model.specs.Numbered.{IsIn, numbers, Holds}
use Rattle.ck_model.specs.Contents.{Layout, layout_of, Stripes, Lawful, pairs_in, pairs_of}
use Rattle.ck_model.specs.Sections.{HasAll, Renewed, Section}
use Rattle.ck_model.proofs.Counted.{len-bindings}
use Rattle.ck_stripe.specs.Stripes.{contents_of}
use Rattle.ck_model.specs.Counting.{counting}
use Rattle.ck_words.specs.Words.{WordsState}
use Rattle.ck_words.specs.Passes.{PassState, numbers_of}
use Rattle.ck_words.specs.Answering.{HasDone}
use Rattle.ck_words.specs.Closing.{IsWhole}
use Rattle.ck_model.proofs.Counting.{in_counting, length-counting}
use Rattle.ck_stripe.proofs.Doubled.{all_buckets}
use Rattle.ck_stripe.proofs.Writes.{few_pairs}
use Rattle.ck_words.proofs.WholeTables.{lawful_held}
use Rattle.ck_words.proofs.Reversed.{in_of_reverse}
use Rattle.ck_words.proofs.Seating.{numbers-contents}

module _ {V : Type 0} where
  -- a pass that knows and holds what another does is that one
  pub as_before : (p q : PassState V) → q.table ≡ p.table → q.view ≡ p.view → q.stripes ≡ p.stripes → q ≡ p
  as_before p q table view stripes = λ j. record { table = table j; view = view j; stripes = stripes j }

  -- contents are renewed by themselves
  pub renewed_same : (k : Layout) (hs : Stripes V) → Lawful k hs → Renewed k hs hs
  renewed_same k hs lawful = record { same = refl; lawful = lawful; power = inl (λ t u c d h g. sym (lawful.one_power t u c d h g)) }

  pub has_all : (hash : Name → ℕ) (set : Settings) (p : PassState V) → numbers_of p.stripes ≡ counting 0 (2 ^ set.s) → HasAll (layout_of hash set) (contents_of p.stripes)
  has_all hash set p all t l = subst (IsIn t) (sym (numbers-contents p.stripes ∙ all)) (in_counting (2 ^ set.s) t l)

  -- a pass that has just taken all stripes holds each
  pub holds_each : (hash : Name → ℕ) (set : Settings) (p : PassState V) → IsWhole hash set p → HasAll (layout_of hash set) p.view.held
  holds_each hash set p whole t l = in_of_reverse p.view.held t (subst (λ (hs : Stripes V). IsIn t (numbers hs)) whole.unchanged (has_all hash set p whole.all t l))

  -- the number of pairs in all stripes is that of the names that they bind
  pub counts_all : (hash : Name → ℕ) (set : Settings) (p : PassState V) (n : ℕ) → IsWhole hash set p → n ≡ length (pairs_of (contents_of p.stripes)) → HasDone hash set Len (Count n) p
  counts_all hash set p n whole count held =
      let k : Layout = layout_of hash set in
      let cs : Stripes V = contents_of p.stripes in
      let lawful : Lawful k cs = subst (λ (hs : Stripes V). Lawful k hs) (sym whole.unchanged) held in
      let same : Section k cs Len (Count n) cs = record {
        renewed = renewed_same k cs lawful;
        owns = has_all hash set p whole.all;
        step = (ap Count (count ∙ sym (len-bindings k cs lawful)), refl);
      } in
      subst (λ (hs : Stripes V). Section k hs Len (Count n) cs) whole.unchanged same

  -- the same where w and v are one table, and p and q one pass
  pub counted : {hash : Name → ℕ} {w v : WordsState} {p q : PassState V} {n : ℕ} → v ≡ w → q ≡ p → IsWhole hash w.settings p → n ≡ length (pairs_of (contents_of p.stripes)) → HasDone hash v.settings Len (Count n) q
  counted {hash} {w} {v} {p} {q} {n} is same whole count =
      subst (λ (x : WordsState × PassState V). HasDone hash x.0.settings Len (Count n) x.1) (λ j. (sym is j, sym same j)) (counts_all hash w.settings p n whole count)

  -- no more pairs than slots, where no stripe has more
  pub few_of_each : (n : ℕ) (hs : Stripes V) → ((t : ℕ) (c : Content V) → Holds hs t c → length (pairs_in c) ≤ n) → length (pairs_of hs) ≤ length hs * n
  few_of_each n [] each = omega arith
  few_of_each n (h ∷ hs) each =
      let here = each h.0 h.1 (inl (refl, refl)) in
      let rest = few_of_each n hs (λ t c x. each t c (inr x)) in
      let both = length-append (pairs_in h.1) (pairs_of hs) in
      omega arith

  slots_below : (k : Layout) (hs : Stripes V) → Lawful k hs → (t : ℕ) (c : Content V) → Holds hs t c → length (pairs_in c) ≤ 4 * 2 ^ (k.max - k.s)
  slots_below k hs lawful t c held =
      let sound = lawful.sound t c held in
      let few = few_pairs c.rows sound.shaped.four in
      let rows = sound.shaped.rows in
      let most = sound.most in
      let less : c.power - k.s ≤ k.max - k.s = omega arith in
      let end : 2 ^ (c.power - k.s) ≤ 2 ^ (k.max - k.s) = pow_mono less in
      omega arith

  -- all stripes bind no more names than they have slots at the greatest power
  most_pairs : (k : Layout) (hs : Stripes V) → Lawful k hs → length hs ≡ 2 ^ k.s → length (pairs_of hs) ≤ 4 * 2 ^ k.max
  most_pairs k [] lawful all = omega arith
  most_pairs k (h ∷ hs) lawful all =
      let first = lawful.sound h.0 h.1 (inl (refl, refl)) in
      let least = first.shaped.least in
      let most = first.most in
      let few = few_of_each (4 * 2 ^ (k.max - k.s)) (h ∷ hs) (slots_below k (h ∷ hs) lawful) in
      let slots = all_buckets k.s k.max (2 ^ (k.max - k.s)) (omega arith) refl in
      let each : length (h ∷ hs) * (4 * 2 ^ (k.max - k.s)) ≡ 2 ^ k.s * (4 * 2 ^ (k.max - k.s)) = ap (λ n. n * (4 * 2 ^ (k.max - k.s))) all in
      omega arith

  pub few_names : (hash : Name → ℕ) (set : Settings) (p : PassState V) (n : ℕ) → IsWhole hash set p → n ≡ length (pairs_of (contents_of p.stripes)) → n ≤ 4 * 2 ^ set.max
  few_names hash set p n whole count =
      let all : length (contents_of p.stripes) ≡ 2 ^ set.s = sym (length-map (contents_of p.stripes) (λ h. h.0)) ∙ (ap (λ (ns : List ℕ). length ns) (numbers-contents p.stripes ∙ whole.all) ∙ length-counting (2 ^ set.s) 0) in
      let most = most_pairs (layout_of hash set) (contents_of p.stripes) (lawful_held hash set p whole) all in
      omega arith
