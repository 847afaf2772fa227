-- What is stored of a stripe, and what is shown of it.
use Rattle.std.proofs.Common.{◌≡◌, ℕ, Bool, true, false, cond, refl, sym, ◌∙◌, ap, subst, ◌+◌, ◌-◌, ◌*◌, ◌/◌, ◌^◌, ◌<◌, ◌≤◌, List, [], Some, None, IsSome, is_some, length, set, replicate, arith}
use Rattle.std.specs.Prelude.{flat_map, All}
use Rattle.std.specs.Option.{option_to_list}
use Rattle.std.proofs.Math.Pow.{pow_mono}
use Rattle.std.proofs.lemmas.Bool.{true≢false}
use Rattle.std.proofs.lemmas.Nat.{pow_pos}
use Rattle.std.proofs.lemmas.Option.{none-some, same_Some}
use Rattle.std.proofs.lemmas.List.{get_or-set_same, length-set, length-replicate}
use Rattle.std.proofs.lemmas.List.Elements.{All-set, All-replicate}
use Rattle.std.proofs.lemmas.List.Sorted.{length_permutation}
use Rattle.ck_model.specs.Promise.{Name}
use Rattle.ck_model.specs.Slots.{Slot, slot_at, taken_in}
use Rattle.ck_model.specs.Contents.{row_at, empty_content}
use Rattle.ck_model.specs.declared.contents.Content.{Content}
use Rattle.ck_stripe.specs.declared.next.Next.{Next}
use Rattle.ck_stripe.specs.declared.next.Next.TheVariants.{Absent, Reserved, Doubled, Emptied}
use Rattle.ck_stripe.specs.declared.stripe.Stripe.TheInside.{Inside}
use Rattle.ck_stripe.specs.Doubling.{split_rows, doubled_content}
use Rattle.ck_stripe.specs.Stripe.{StripeState, IsWellFormed, bucket_of, with_bucket, with_slot, content_of}
use Rattle.ck_stripe.specs.Next.{is_settled, is_emptied, count_of, room_of, blank_of, IsFor, without_emptied}
use Rattle.ck_stripe.specs.Stored.{shown_rows, shown, IsConsistent}
use Rattle.ck_stripe.proofs.Splits.{length-split, four-split, split_moved}
use Rattle.ck_stripe.proofs.Doubled.{twice_rows}
use Rattle.ck_stripe.proofs.Writes.{count_rows, count_slots, no_pairs}

abbrev IsFour : {X : Type 0} → List X → Type 0
IsFour row = length row ≡ 4

pub content_empty : {V : Type 0} (s power n : ℕ) (rows : List (List (Slot V))) → rows ≡ replicate n (replicate 4 None) → n ≡ 2 ^ (power - s) → content_of power rows ≡ empty_content s power
content_empty {V} s power n rows free is =
    ap (content_of power) (free ∙ ap (λ m. replicate m (replicate 4 None)) is)
    ∙ ap (λ (es : List (Name × V)). record { power = power; rows = replicate (2 ^ (power - s)) (replicate 4 None); ledger = length es }) (no_pairs (Name × V) (2 ^ (power - s)))

module _ {K V : Type 0} where
  -- the fields with other rows
  abbrev pub with_rows : Inside K V → List (List (Slot V)) → Inside K V
  with_rows t rows = record t { rows = rows }

  module _ (t : Inside K V) (kept : IsConsistent t) where
    stored_count : (settled : Bool) → is_settled t.next ≡ settled → length t.rows ≡ cond settled (2 ^ (t.power - t.s)) (2 ^ (t.power - 1 - t.s))
    stored_count settled is = kept.count ∙ ap (λ b. cond b (2 ^ (t.power - t.s)) (2 ^ (t.power - 1 - t.s))) is

    pub few_stored : count_of t.s t.power t.next ≤ 2 ^ 26
    few_stored = go (is_settled t.next)
      where
        go : (b : Bool) → cond b (2 ^ (t.power - t.s)) (2 ^ (t.power - 1 - t.s)) ≤ 2 ^ 26
        go true = let below : t.power - t.s ≤ 26 = omega (arith, kept.most) in pow_mono below
        go false = let below : t.power - 1 - t.s ≤ 26 = omega (arith, kept.most) in pow_mono below

    -- memory for a doubling is more than for the rows alone
    more_room : 2 ^ (t.power - t.s) < 2 ^ (t.power + 1 - t.s)
    more_room = let some = pow_pos (t.power - t.s) in let twice = twice_rows t.s t.power _ kept.least refl in omega arith

    pub reserved_blank : room_of t.s t.power t.next ≡ 2 ^ (t.power + 1 - t.s) → IsSome (blank_of t.next)
    reserved_blank = go t.next
      where
        go : (next : Next K V) → room_of t.s t.power next ≡ 2 ^ (t.power + 1 - t.s) → IsSome (blank_of next)
        go Absent is = absurd (omega (arith, is, more_room))
        go (Reserved blank) is = refl
        go (Doubled blank) is = refl
        go (Emptied rows) is = absurd (omega (arith, is, more_room))

    pub room_rises : (after : Next K V) (blank : ℕ) → is_some (blank_of t.next) ≡ false → after ≡ Reserved blank → room_of t.s t.power t.next ≤ room_of t.s t.power after
    room_rises after blank none is = subst (λ next. room_of t.s t.power t.next ≤ room_of t.s t.power next) (sym is) (go t.next none)
      where
        go : (next : Next K V) → is_some (blank_of next) ≡ false → room_of t.s t.power next ≤ 2 ^ (t.power + 1 - t.s)
        go Absent e = omega (arith, more_room)
        go (Reserved b) e = absurd (true≢false e)
        go (Doubled b) e = absurd (true≢false e)
        go (Emptied rows) e = omega (arith, more_room)

    -- what a settled stripe has is for so many rows
    pub next_for : is_settled t.next ≡ true → IsFor (2 ^ (t.power - t.s)) t.next
    next_for settled = subst (λ n. IsFor n t.next) (stored_count true settled) kept.next

    pub emptied_for : is_emptied t.next ≡ true → IsFor (2 ^ (t.power - t.s)) t.next
    emptied_for has = next_for (go t.next has)
      where
        go : (next : Next K V) → is_emptied next ≡ true → is_settled next ≡ true
        go Absent e = refl
        go (Reserved blank) e = refl
        go (Doubled blank) e = absurd (true≢false (sym e))
        go (Emptied rows) e = refl

    -- without emptied rows
    pub kept_freed : (after : Next K V) → after ≡ without_emptied t.next → IsConsistent (record t { next = after })
    kept_freed after is = subst (λ next. IsConsistent (record t { next = next })) (sym is) (go t.next kept)
      where
        go : (next : Next K V) → IsConsistent (record t { next = next }) → IsConsistent (record t { next = without_emptied next })
        go Absent k = k
        go (Reserved blank) k = k
        go (Doubled blank) k = k
        go (Emptied rows) k = record { many = k.many; number = k.number; least = k.least; late = k.late; most = k.most; count = k.count; four = k.four; next = tt }

    pub shown_freed : (hash : Name → ℕ) (after : Next K V) → after ≡ without_emptied t.next → shown hash (record t { next = after }) ≡ shown hash t
    shown_freed hash after is = ap (λ next. shown hash (record t { next = next })) is ∙ go t.next
      where
        go : (next : Next K V) → shown hash (record t { next = without_emptied next }) ≡ shown hash (record t { next = next })
        go Absent = refl
        go (Reserved blank) = refl
        go (Doubled blank) = refl
        go (Emptied rows) = refl

    -- as many other rows of four slots
    pub kept_rows : (rows : List (List (Slot V))) → length rows ≡ length t.rows → All IsFour rows → IsConsistent (with_rows t rows)
    kept_rows rows long four = record {
      many = kept.many;
      number = kept.number;
      least = kept.least;
      late = kept.late;
      most = kept.most;
      count = long ∙ kept.count;
      four = four;
      next = subst (λ n. IsFor n t.next) (sym long) kept.next;
    }

    -- and as many free ones
    pub kept_free : (rows : List (List (Slot V))) (n : ℕ) → rows ≡ replicate n (replicate 4 None) → n ≡ count_of t.s t.power t.next → IsConsistent (with_rows t rows)
    kept_free rows n free is =
        kept_rows rows (ap length free ∙ length-replicate n (replicate 4 None) ∙ is ∙ sym kept.count) (subst (All IsFour) (sym free) (All-replicate IsFour n (replicate 4 None) refl))

  module _ (hash : Name → ℕ) (t : Inside K V) (kept : IsConsistent t) where
    -- twice the rows, once they are split
    split_count : is_settled t.next ≡ false → length (split_rows hash t.s t.number (t.power - 1) t.rows) ≡ 2 ^ (t.power - t.s)
    split_count late =
        let below : t.s < t.power = kept.late late in
        let back : t.power - 1 + 1 ≡ t.power = omega arith in
        length-split hash t.s t.number (t.power - 1) t.rows
        ∙ twice_rows t.s (t.power - 1) (length t.rows) (omega arith) (stored_count t kept false late)
        ∙ ap (λ n. 2 ^ (n - t.s)) back

    pub kept_split :
        (rows old : List (List (Slot V))) (after : Next K V) → is_settled t.next ≡ false → rows ≡ split_rows hash t.s t.number (t.power - 1) t.rows
        → old ≡ replicate (length t.rows) (replicate 4 None) → after ≡ Emptied old → IsConsistent (record t { rows = rows; next = after })
    kept_split rows old after late is free left = subst (λ next. IsConsistent (record t { rows = rows; next = next })) (sym left) (record {
      many = kept.many;
      number = kept.number;
      least = kept.least;
      late = λ settled. absurd (true≢false settled);
      most = kept.most;
      count = ap length is ∙ split_count late;
      four = subst (All IsFour) (sym is) (four-split hash t.s t.number (t.power - 1) t.rows kept.four);
      next =
          let long = ap length free ∙ length-replicate (length t.rows) (replicate 4 None) in
          (ap length is ∙ length-split hash t.s t.number (t.power - 1) t.rows ∙ ap (λ n. 2 * n) (sym long), free ∙ ap (λ n. replicate n (replicate 4 None)) (sym long));
    })

    pub formed : IsWellFormed (shown hash t)
    formed = record { many = kept.many; number = kept.number; most = kept.most; shaped = record { least = kept.least; rows = long (is_settled t.next) refl; four = four (is_settled t.next); ledger = refl } }
      where
        long : (b : Bool) → is_settled t.next ≡ b → length (cond b t.rows (split_rows hash t.s t.number (t.power - 1) t.rows)) ≡ 2 ^ (t.power - t.s)
        long true settled = stored_count t kept true settled
        long false late = split_count late

        four : (b : Bool) → All IsFour (cond b t.rows (split_rows hash t.s t.number (t.power - 1) t.rows))
        four true = kept.four
        four false = four-split hash t.s t.number (t.power - 1) t.rows kept.four

    pub formed_now : (now : StripeState V) → shown hash t ≡ now → IsWellFormed now
    formed_now now is = subst IsWellFormed is formed

    -- the entries that are shown are those that are stored
    pub entries_shown : length (flat_map taken_in t.rows) ≡ (shown hash t).content.ledger
    entries_shown = go (is_settled t.next)
      where
        go : (b : Bool) → length (flat_map taken_in t.rows) ≡ length (flat_map taken_in (cond b t.rows (split_rows hash t.s t.number (t.power - 1) t.rows)))
        go true = refl
        go false = sym (length_permutation _ _ (split_moved hash t.s t.number (t.power - 1) t.rows))

    -- A settled stripe shows what it stores.
    module _ (now : StripeState V) (is : shown hash t ≡ now) (settled : now.settled ≡ true) where
      pub stored_settled : is_settled t.next ≡ true
      stored_settled = ap (λ (w : StripeState V). w.settled) is ∙ settled

      pub now_stored : now ≡ record { number = t.number; s = t.s; content = content_of t.power t.rows; settled = true; room = room_of t.s t.power t.next }
      now_stored = sym is ∙ ap (λ (b : Bool). record { number = t.number; s = t.s; content = content_of t.power (cond b t.rows (split_rows hash t.s t.number (t.power - 1) t.rows)); settled = b; room = room_of t.s t.power t.next }) stored_settled

      pub pairs_stored : flat_map taken_in now.content.rows ≡ flat_map taken_in t.rows
      pairs_stored = ap (λ (w : StripeState V). flat_map taken_in w.content.rows) now_stored

      pub content_rows : (rows : List (List (Slot V))) → (shown hash (with_rows t rows)).content ≡ content_of t.power rows
      content_rows rows = ap (λ (b : Bool). content_of t.power (cond b rows (split_rows hash t.s t.number (t.power - 1) rows))) stored_settled

      pub content_free : (rows : List (List (Slot V))) (n : ℕ) → rows ≡ replicate n (replicate 4 None) → n ≡ count_of t.s t.power t.next → (shown hash (with_rows t rows)).content ≡ empty_content now.s now.content.power
      content_free rows n free all =
          content_rows rows ∙ content_empty t.s t.power n rows free (all ∙ sym kept.count ∙ stored_count t kept true stored_settled)
          ∙ ap (λ (w : StripeState V). empty_content w.s w.content.power) is

      -- Slot i of bucket b is written, which is row r.
      module _ (b r i : ℕ) (at : r ≡ b / 2 ^ now.s) (lt : r < length now.content.rows) (below : i < 4) (rows : List (List (Slot V))) (slots : List (Slot V)) (all : rows ≡ set t.rows r slots)
          (o : Slot V) (wrote : slots ≡ set (row_at t.rows r) i o) where
        inside : r < length t.rows
        inside = subst (λ (w : StripeState V). r < length w.content.rows) now_stored lt

        four : length (row_at t.rows r) ≡ 4
        four = kept.four r [] inside

        here : bucket_of now b ≡ row_at t.rows r
        here = ap (row_at now.content.rows) (sym at) ∙ ap (λ (w : StripeState V). row_at w.content.rows r) now_stored

        pub kept_written : IsConsistent (with_rows t rows)
        kept_written =
            kept_rows t kept rows (ap length all ∙ length-set t.rows r slots)
            (subst (All IsFour) (sym all) (All-set IsFour t.rows r slots (ap length wrote ∙ length-set (row_at t.rows r) i o ∙ four) kept.four))

        -- what the number of entries was and is
        abbrev pub Counts : ℕ → Type 0
        Counts n = n + length (option_to_list (slot_at (bucket_of now b) i)) ≡ now.content.ledger + length (option_to_list o)

        entries : Counts (length (flat_map taken_in rows))
        entries =
            let was = ap (λ (x : List (Slot V)). length (option_to_list (slot_at x i))) here in
            let before = ap (λ (w : StripeState V). w.content.ledger) now_stored in
            let row = ap (λ (x : List (Slot V)). length (taken_in x)) wrote in
            let slot = count_slots (row_at t.rows r) i o (omega (arith, four)) in
            let more = count_rows t.rows r slots inside in
            let new = ap (λ (x : List (List (Slot V))). length (flat_map taken_in x)) all in
            omega arith

        module _ (ledger : ℕ) (counted : (n : ℕ) → Counts n → n ≡ ledger) where
          content_written : (shown hash (with_rows t rows)).content ≡ with_bucket now b slots ledger
          content_written =
              let power : t.power ≡ now.content.power = ap (λ (w : StripeState V). w.content.power) is in
              let same : rows ≡ set now.content.rows (b / 2 ^ now.s) slots = all ∙ ap (λ (w : StripeState V). set w.content.rows r slots) (sym now_stored) ∙ ap (λ n. set now.content.rows n slots) at in
              let many = counted (length (flat_map taken_in rows)) entries in
              content_rows rows ∙ (λ j. record { power = power j; rows = same j; ledger = many j })

          -- as it is said where the slot is written, and where the bucket is read again
          pub content_set : (shown hash (with_rows t rows)).content ≡ with_slot now b i o ledger
          content_set = content_written ∙ ap (λ (x : List (Slot V)). with_bucket now b x ledger) (wrote ∙ ap (λ (x : List (Slot V)). set x i o) (sym here))

          pub content_read : (shown hash (with_rows t rows)).content ≡ with_bucket now b (bucket_of (shown hash (with_rows t rows)) b) ledger
          content_read =
              let again : slots ≡ row_at (shown_rows hash (with_rows t rows)) (b / 2 ^ t.s) =
              sym (ap (λ (x : List (List (Slot V))). row_at x r) all ∙ get_or-set_same t.rows r slots [] inside) ∙ ap (row_at rows) (at ∙ ap (λ (w : StripeState V). b / 2 ^ w.s) (sym is)) ∙ ap (λ (c : Content V). row_at c.rows (b / 2 ^ t.s)) (sym (content_rows rows)) in
              content_written ∙ ap (λ (x : List (Slot V)). with_bucket now b x ledger) again

      -- A doubling that was reserved is due.
      module _ (more : ℕ) (there : blank_of t.next ≡ Some more) (after : Next K V) (due : after ≡ Doubled more) where
        abbrev pub raised : Next K V → Inside K V
        raised next = record t { power = t.power + 1; next = next }

        reserved : t.next ≡ Reserved more
        reserved = go t.next there stored_settled
          where
            go : (next : Next K V) → blank_of next ≡ Some more → is_settled next ≡ true → next ≡ Reserved more
            go Absent some e = absurd (none-some _ some)
            go (Reserved blank) some e = ap Reserved (same_Some blank more some)
            go (Doubled blank) some e = absurd (true≢false (sym e))
            go (Emptied rows) some e = absurd (none-some _ some)

        twice : room_of t.s t.power t.next ≡ 2 ^ (t.power + 1 - t.s)
        twice = ap (room_of t.s t.power) reserved

        pub now_raised : shown hash (raised after) ≡ record { number = now.number; s = now.s; content = doubled_content hash now.s now.number now.content; settled = false; room = now.room }
        now_raised =
            let back : t.power + 1 - 1 ≡ t.power = omega arith in
            let entries = length_permutation _ _ (split_moved hash t.s t.number t.power t.rows) in
            ap (λ next. shown hash (raised next)) due
            ∙ (λ j. record {
              number = t.number;
              s = t.s;
              content = record { power = t.power + 1; rows = split_rows hash t.s t.number (back j) t.rows; ledger = (ap (λ n. length (flat_map taken_in (split_rows hash t.s t.number n t.rows))) back ∙ entries) j };
              settled = false;
              room = sym twice j;
            })
            ∙ ap (λ (w : StripeState V). record { number = w.number; s = w.s; content = doubled_content hash w.s w.number w.content; settled = false; room = w.room }) (sym now_stored)

        pub kept_raised : t.power < 26 → IsConsistent (raised after)
        kept_raised below = subst (λ next. IsConsistent (raised next)) (sym due) (record {
          many = kept.many;
          number = kept.number;
          least = omega (arith, kept.least);
          late = λ e. omega (arith, kept.least);
          most = omega arith;
          count = stored_count t kept true stored_settled ∙ (let back : t.power ≡ t.power + 1 - 1 = omega arith in ap (λ n. 2 ^ (n - t.s)) back);
          four = kept.four;
          next = subst (IsFor (length t.rows)) reserved kept.next;
        })
