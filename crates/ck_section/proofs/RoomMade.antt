-- How a table makes room for a name: what is known of it after some doublings, and when it can't.
use Rattle.std.proofs.Common.{◌≡◌, ◌≢◌, ℕ, ◌+◌, ◌<◌, ◌≤◌, List, length, sym, ◌∙◌, ap, subst, arith}
use mathlib.Core.Logic.{dite}
use native.Mathlib.Decide.{ℕ_discrete}
use Rattle.std.proofs.lemmas.Nat.{pow_pos}
use Rattle.ck_model.specs.declared.history.Reason.TheVariants as Reasons
use Rattle.ck_model.specs.Promise.{Name}
use Rattle.ck_model.specs.Contents.{layout, Stripes, Lawful, power_of}
use Rattle.ck_model.specs.Doubling.{IsDoubledTo}
use Rattle.ck_model.specs.Paths.{IsStuck, Grounds, reason_of_lack}
use Rattle.ck_model.specs.Sections.{IdentitySection}
use Rattle.ck_stripe.specs.Stripe.{StripeState}
use Rattle.ck_model.specs.declared.lack.Lack.{Lack}
use Rattle.ck_model.specs.declared.lack.Lack.TheVariants.{Memory, Full, LoadTooLow}
use Rattle.ck_stripe.specs.Stripes.{contents_of}
use Rattle.ck_stripe.specs.Tables.{IsTable, power_in}
use Rattle.ck_section.specs.Doublings.{Grows}
use Rattle.ck_section.specs.Calls.{IsWithoutRoom}
use Rattle.ck_section.specs.Room.{IsLack, IsWithoutPath, GivesReason, GrowsForRoom, OnlyDoubles}
use Rattle.ck_section.proofs.Found.{sound_at}
use Rattle.ck_model.proofs.Identities.{identity_of_none, identity_on}
use Rattle.ck_section.proofs.Doublings.{doubled_none, doubled_on}
use Rattle.ck_stripe.proofs.Tables.{has_all}
use Rattle.ck_section.proofs.Tables.{power_is}

module _ {V : Type 0} (hash : Name → ℕ) (s max min_load : ℕ) (q : Name) where
  -- What is known of lawful stripes that have doubled for want of room for the name, and done nothing else.
  pub record Grown (old cur : List (StripeState V)) : Type 0 where
    pub no_call : IdentitySection (layout hash s max) (contents_of old) (contents_of cur)
    pub doubled : IsDoubledTo (layout hash s max) (power_in cur) (contents_of old) (contents_of cur)
    pub each : (p : ℕ) → power_in old ≤ p → p < power_in cur → (ks : Stripes V) × IsDoubledTo (layout hash s max) p (contents_of old) ks × Grounds (layout hash s max) min_load ks q Reasons.Memory

  pub grown_none : (old : List (StripeState V)) → IsTable s old → Lawful (layout hash s max) (contents_of old) → Grown old old
  grown_none old table lawful = record {
    no_call = identity_of_none (layout hash s max) (contents_of old) lawful;
    doubled = subst (λ p. IsDoubledTo (layout hash s max) p (contents_of old) (contents_of old)) (power_is s old table hash max lawful) (doubled_none (layout hash s max) (contents_of old) lawful);
    each = λ p lo hi. absurd (omega arith);
  }

  pub stuck_in : (cur : List (StripeState V)) → IsTable s cur → IsWithoutRoom hash s cur q → IsWithoutPath hash s cur q → Lawful (layout hash s max) (contents_of cur) → IsStuck (layout hash s max) (contents_of cur) q
  stuck_in cur table no_room no_path lawful = record {
    lawful = lawful;
    all = has_all hash s max cur table;
    unbound = (no_room max lawful).unbound;
    no_path = no_path max lawful;
  }

  -- what a table lacks that has no room and can make none without growing is the reason to refuse the name
  pub grounds_for : (cur : List (StripeState V)) → IsTable s cur → (why : Lack) → IsLack max min_load cur why → IsStuck (layout hash s max) (contents_of cur) q → Grounds (layout hash s max) min_load (contents_of cur) q (reason_of_lack why)
  grounds_for cur table Full lack stuck =
      let inside : 0 < length cur = subst (λ n. 0 < n) (sym table.count) (pow_pos s) in
      let most : power_in cur ≤ max = (sound_at hash s max cur stuck.lawful 0 inside).most in
      let is : power_of (contents_of cur) ≡ power_in cur = power_is s cur table hash max stuck.lawful in
      let greatest : power_in cur ≡ max = omega arith in
      (stuck, is ∙ greatest)
  grounds_for cur table LoadTooLow lack stuck =
      let is : power_of (contents_of cur) ≡ power_in cur = power_is s cur table hash max stuck.lawful in
      (stuck, λ e. (let low : power_in cur < max = lack.0 in let same : power_in cur ≡ max = sym is ∙ e in omega arith), lack.1)
  grounds_for cur table Memory lack stuck =
      let is : power_of (contents_of cur) ≡ power_in cur = power_is s cur table hash max stuck.lawful in
      (stuck, λ e. (let low : power_in cur < max = lack.0 in let same : power_in cur ≡ max = sym is ∙ e in omega arith), lack.1)

  -- one doubling more, of stripes that have settled since
  pub grown_more : (old cur mid new : List (StripeState V)) → IsTable s old → IsTable s cur → power_in old ≤ power_in cur → Lawful (layout hash s max) (contents_of old) → Grown old cur
      → contents_of mid ≡ contents_of cur → power_in mid ≡ power_in cur → IsLack max min_load mid Memory → (Lawful (layout hash s max) (contents_of mid) → IsStuck (layout hash s max) (contents_of mid) q)
      → Grows hash s mid new → power_in new ≡ power_in mid + 1 → Grown old new
  grown_more old cur mid new old_table cur_table rising lawful grown same level lack stuck grows next =
      let now : Lawful (layout hash s max) (contents_of cur) = grown.no_call.renewed.lawful in
      let mid_lawful : Lawful (layout hash s max) (contents_of mid) = subst (Lawful (layout hash s max)) (sym same) now in
      let one : IdentitySection (layout hash s max) (contents_of cur) (contents_of new) = subst (λ (hs : Stripes V). IdentitySection (layout hash s max) hs (contents_of new)) same (grows.no_call max lack.0 mid_lawful) in
      let twice : IsDoubledTo (layout hash s max) (power_in new) (contents_of cur) (contents_of new) =
      subst (λ (x : ℕ × Stripes V). IsDoubledTo (layout hash s max) x.0 x.1 (contents_of new)) (λ z. (sym next z, same z)) (grows.doubled max lack.0 mid_lawful) in
      let is : power_of (contents_of cur) ≡ power_in cur = power_is s cur cur_table hash max now in
      let old_is : power_of (contents_of old) ≡ power_in old = power_is s old old_table hash max lawful in
      record {
        no_call = identity_on (layout hash s max) (contents_of old) (contents_of cur) (contents_of new) grown.no_call one;
        doubled = doubled_on (layout hash s max) (contents_of old) lawful (power_in cur) (power_in new) (contents_of cur) (contents_of new)
            (subst (λ n. n ≤ power_in cur) (sym old_is) rising) is grown.doubled twice;
        each = λ p lo hi. dite (ℕ_discrete p (power_in cur))
            (λ e. (
              contents_of cur,
              subst (λ n. IsDoubledTo (layout hash s max) n (contents_of old) (contents_of cur)) (sym e) grown.doubled,
              subst (λ (hs : Stripes V). Grounds (layout hash s max) min_load hs q Reasons.Memory) same (grounds_for_mid mid_lawful),
            ))
            (λ ne. grown.each p lo (below p (power_in cur) (power_in new) hi (next ∙ ap (λ n. n + 1) level) ne));
      }
    where
      below : (p c n : ℕ) → p < n → n ≡ c + 1 → p ≢ c → p < c
      below p c n lt e ne = omega arith

      power_mid : Lawful (layout hash s max) (contents_of mid) → power_of (contents_of mid) ≡ power_in mid
      power_mid l = ap power_of same ∙ power_is s cur cur_table hash max grown.no_call.renewed.lawful ∙ sym level

      grounds_for_mid : Lawful (layout hash s max) (contents_of mid) → Grounds (layout hash s max) min_load (contents_of mid) q Reasons.Memory
      grounds_for_mid l = (stuck l, λ e. (let low : power_in mid < max = lack.0 in let at : power_in mid ≡ max = sym (power_mid l) ∙ e in omega arith), lack.1)

  -- what has doubled so, and then gone by no call to other contents of its power, has doubled for room alone
  pub grows_for_room : (old cur new : List (StripeState V)) → (Lawful (layout hash s max) (contents_of old) → Grown old cur) → power_in new ≡ power_in cur → GrowsForRoom (layout hash s max) min_load old new q
  grows_for_room old cur new grown level lawful p lo hi = (grown lawful).each p lo (subst (λ n. p < n) level hi)

  -- what has doubled so, and stays as it is, has only doubled
  pub only_doubles : (old cur mid new : List (StripeState V)) → (Lawful (layout hash s max) (contents_of old) → Grown old cur) → contents_of mid ≡ contents_of cur → power_in mid ≡ power_in cur → new ≡ mid
      → OnlyDoubles (layout hash s max) old new
  only_doubles old cur mid new grown same level kept lawful =
      subst (λ (x : ℕ × Stripes V). IsDoubledTo (layout hash s max) x.0 (contents_of old) x.1)
      (λ i. (sym (ap power_in kept ∙ level) i, sym (ap contents_of kept ∙ same) i)) (grown lawful).doubled

  -- what is refused for a lack
  pub refused_in : (old cur mid new : List (StripeState V)) → (Lawful (layout hash s max) (contents_of old) → Grown old cur) → contents_of mid ≡ contents_of cur → contents_of new ≡ contents_of mid → IsTable s mid
      → IsWithoutRoom hash s mid q → IsWithoutPath hash s mid q → (why : Lack) → IsLack max min_load mid why → GivesReason (layout hash s max) min_load old new q why
  refused_in old cur mid new grown same kept table no_room no_path why lack lawful =
      let mid_lawful : Lawful (layout hash s max) (contents_of mid) = subst (Lawful (layout hash s max)) (sym same) (grown lawful).no_call.renewed.lawful in
      subst (λ (hs : Stripes V). Grounds (layout hash s max) min_load hs q (reason_of_lack why)) (sym kept) (grounds_for mid table why lack (stuck_in mid table no_room no_path mid_lawful))
