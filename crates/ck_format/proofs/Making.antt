-- Steps of the generator of a made script, and lists of its lines that grow.
use Rattle.std.proofs.Common.{◌≡◌, ℕ, zero, suc, ◌+◌, ◌*◌, ◌%◌, List, ◌++◌, refl, sym, ap, ◌∙◌, arith, suc-add, zero-add}
use Rattle.std.specs.Prelude.{codes, flat_map}
use Rattle.std.proofs.lemmas.List.{flat_map_more}
use Rattle.rand_pcg.specs.Lcg.{Lcg, advance, increment_of, next_state, started, state_after}
use Rattle.rand_pcg.specs.Pcg.{multiplier_64, pcg32}
use Rattle.ck_model.specs.Counting.{counting}
use Rattle.ck_model.proofs.Counting.{counting-more}
use Rattle.ck_format.specs.Lines.{with_feed}
use Rattle.ck_format.specs.Made.{add_text, after_lines, block_text, generator_of, made_block, nth_line, nth_word}

state_after-add : (w m p a b s : ℕ) → state_after w m p b (state_after w m p a s) ≡ state_after w m p (a + b) s
unfolding state_after
state_after-add w m p zero b s = ap (λ n. state_after w m p n s) (sym (zero-add b))
state_after-add w m p (suc a) b s =
    state_after-add w m p a b (next_state w m p s) ∙ ap (λ n. state_after w m p n s) (sym (suc-add a b))

advance-advance : (w m a b : ℕ) (g : Lcg) → advance w m b (advance w m a g) ≡ advance w m (a + b) g
advance-advance w m a b g = ap (λ s. record g { state = s }) (state_after-add w m g.increment a b g.state)

-- no lines leave a generator as it is
pub after_no_lines : (g : Lcg) → after_lines 0 g ≡ g
unfolding after_lines state_after
after_no_lines g = refl

-- a new generator is behind the lines of no worker
pub new_generator : (seed lines : ℕ) (g : Lcg) → g ≡ started 64 multiplier_64 seed (increment_of 64 54) → g ≡ after_lines (0 * lines) (generator_of seed)
unfolding generator_of
new_generator seed lines g new =
    new ∙ sym (after_no_lines (generator_of seed)) ∙ ap (λ n. after_lines n (generator_of seed)) (let e : 0 ≡ 0 * lines = omega arith in e)

-- lines behind lines
pub after_lines-add : (a b : ℕ) (g : Lcg) → after_lines b (after_lines a g) ≡ after_lines (a + b) g
unfolding after_lines
after_lines-add a b g =
    advance-advance 64 multiplier_64 (2 * a) (2 * b) g
    ∙ ap (λ n. advance 64 multiplier_64 n g) (let e : 2 * a + 2 * b ≡ 2 * (a + b) = omega arith in e)

nth_word-after : (a i : ℕ) (g : Lcg) → nth_word (advance 64 multiplier_64 a g) i ≡ nth_word g (a + i)
unfolding nth_word
nth_word-after a i g = ap (λ (h : Lcg). (pcg32 h).0) (advance-advance 64 multiplier_64 a i g)

-- a generator behind some lines makes those that come after them
pub nth_line-after : (a i : ℕ) (g : Lcg) → nth_line (after_lines a g) i ≡ nth_line g (a + i)
unfolding nth_line after_lines
nth_line-after a i g =
    let key = nth_word-after (2 * a) (2 * i) g ∙ ap (nth_word g) (let e : 2 * a + 2 * i ≡ 2 * (a + i) = omega arith in e) in
    let number = nth_word-after (2 * a) (2 * i + 1) g ∙ ap (nth_word g) (let e : 2 * a + (2 * i + 1) ≡ 2 * (a + i) + 1 = omega arith in e) in
    λ j. add_text (key j % 64) (number j % 1000)

-- two words leave the generator behind one line
pub behind_two_words : (a b : ℕ) (g h k : Lcg) → (a, h) ≡ pcg32 g → (b, k) ≡ pcg32 h → k ≡ after_lines 1 g
unfolding after_lines state_after
behind_two_words a b g h k first second = ap (λ p. p.1) second ∙ ap (λ (f : Lcg). (pcg32 f).1) (ap (λ p. p.1) first)

-- two words are those of the next line
pub line_of_two_words : (a b : ℕ) (g h k : Lcg) → (a, h) ≡ pcg32 g → (b, k) ≡ pcg32 h → add_text (a % 64) (b % 1000) ≡ nth_line g 0
unfolding nth_line nth_word state_after
line_of_two_words a b g h k first second =
    let key : a ≡ nth_word g 0 = ap (λ p. p.0) first in
    let number : b ≡ nth_word g 1 = ap (λ p. p.0) second ∙ ap (λ (f : Lcg). (pcg32 f).0) (ap (λ p. p.1) first) in
    λ j. add_text (key j % 64) (number j % 1000)

-- behind the texts that are counted comes the next
pub one_more : (f : ℕ → List ℕ) (n : ℕ) (front old new piece : List ℕ) → old ≡ front ++ flat_map f (counting 0 n) → new ≡ old ++ piece → piece ≡ f n → new ≡ front ++ flat_map f (counting 0 (n + 1))
one_more f n front old new piece before added next =
    added ∙ (λ i. before i ++ next i) ∙ flat_map_more f front (counting 0 n) n ∙ ap (λ ns. front ++ flat_map f ns) (counting-more n)

-- a generator behind n lines makes line number n next
pub next_line : (n : ℕ) (g start : Lcg) → g ≡ after_lines n start → nth_line g 0 ≡ nth_line start n
next_line n g start behind =
    ap (λ (h : Lcg). nth_line h 0) behind ∙ nth_line-after n 0 start ∙ ap (nth_line start) (let e : n + 0 ≡ n = omega arith in e)

-- a generator behind the lines of w workers makes the block of worker number w next
pub next_block : (seed lines w : ℕ) (g : Lcg) → g ≡ after_lines (w * lines) (generator_of seed) → block_text g lines ≡ made_block seed lines w
unfolding nth_line
next_block seed lines w g behind =
    ap (λ (h : Lcg). block_text h lines) behind
    ∙ (λ i. with_feed (codes "worker") ++ flat_map (λ j. with_feed (nth_line-after (w * lines) j (generator_of seed) i)) (counting 0 lines))

-- and is behind one worker more then
pub behind_block : (seed lines w : ℕ) (g next : Lcg) → g ≡ after_lines (w * lines) (generator_of seed) → next ≡ after_lines lines g → next ≡ after_lines ((w + 1) * lines) (generator_of seed)
behind_block seed lines w g next behind step =
    step ∙ ap (after_lines lines) behind ∙ after_lines-add (w * lines) lines (generator_of seed)
    ∙ ap (λ n. after_lines n (generator_of seed)) (let e : w * lines + lines ≡ (w + 1) * lines = omega arith in e)
