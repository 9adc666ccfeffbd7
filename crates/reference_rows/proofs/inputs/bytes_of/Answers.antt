-- A byte is put behind those before it, and its two digits go from the rest.
use Rattle.std.proofs.Common.{◌≡◌, ◌∙◌, ◌+◌, ◌*◌, ◌<◌, ◌++◌, ap, ap₂, sym, refl, arith, ℕ, List, [], ◌∷◌, length, get_or, drop, length-append, Some, Ok, Err}
use Rattle.std.specs.Prelude.{Result, OnOk, is_ok, true}
use Rattle.std.specs.Result.{result_ok}
use Rattle.std.specs.Slice.Iter.{chunks_exact_rest, chunks_exact_size}
use Rattle.std.proofs.lemmas.List.{get_or_push, get_or_append_left, get_or-drop, drop-drop, length_push}
use Rattle.std.proofs.Math.Seq.{drop-append_seam}
use borrow.Author.Count.{below_more}
use Rattle.reference_rows.specs.Inputs.{digit_of, byte_of, byte_at, sheet_room, BytesOf}
use Rattle.reference_rows.proofs.inputs.bytes_of.Goals as goal

-- what is said of a result that is `Ok`
on_ok : {T E P : Type 0} (r : Result T E) {x : T} → result_ok r ≡ Some x → OnOk r P → P
on_ok (Ok y) e h = h
on_ok (Err y) e h = cc e

is_ok_by : {T E : Type 0} (r : Result T E) {x : T} → result_ok r ≡ Some x → is_ok r ≡ true
is_ok_by (Ok y) e = refl
is_ok_by (Err y) e = cc e

module _ (hex bytes : List ℕ) where
  one_more : (x : ℕ) → length bytes < sheet_room → Some x ≡ byte_at hex (length bytes) → BytesOf hex bytes → BytesOf hex (bytes ++ x ∷ [])
  one_more x room e so_far =
      record {
        room = rw length_push (omega arith);
        each = λ k h. below_more (λ j. Some (get_or (bytes ++ x ∷ []) j 0) ≡ byte_at hex j) (length bytes)
            (λ j i. ap Some (get_or_append_left bytes (x ∷ []) 0 j i) ∙ so_far.each j i)
            (ap Some (get_or_push bytes x 0 (length bytes) refl) ∙ e)
            k (rw length_push at h);
      }

  -- of the pair that the digits from there on begin with
  module _ (pair after : List ℕ) (two : length pair ≡ 2) (begins : drop (2 * length bytes) hex ≡ pair ++ after) where
    at : (i j : ℕ) → i < 2 → j ≡ 2 * length bytes + i → get_or pair i 0 ≡ get_or hex j 0
    at i j h e =
        let within : i < length pair = omega arith in
        sym (get_or_append_left pair after 0 i within) ∙ ap (λ (s : List ℕ). get_or s i 0) (sym begins) ∙ get_or-drop (2 * length bytes) hex i 0 ∙ ap (λ n. get_or hex n 0) (sym e)

    byte_is : {high low : ℕ} → Some high ≡ digit_of (get_or pair 0 0) → Some low ≡ digit_of (get_or pair 1 0) → Some (16 * high + low) ≡ byte_at hex (length bytes)
    unfolding byte_at
    byte_is h l =
        ap₂ byte_of (h ∙ ap digit_of (at 0 (2 * length bytes) (omega arith) (omega arith))) (l ∙ ap digit_of (at 1 (2 * length bytes + 1) (omega arith) (omega arith)))

    go_on : (n : ℕ) → n ≡ 2 * length bytes + length pair → drop n hex ≡ after
    go_on n e = ap (λ m. drop m hex) e ∙ sym (drop-drop (length pair) (2 * length bytes) hex) ∙ ap (drop (length pair)) begins ∙ drop-append_seam pair after

pub loop-pair-init : goal.loop-pair-init
loop-pair-init c =
    let same = c.into_iter-pair-iterator.ensures.into_iter_gives in
    let all : chunks_exact_rest c.into_iter-pair-iterator.result ≡ c.args.hex.now = ap chunks_exact_rest same ∙ c.chunks_exact-pair-items.ensures.rest in
    record {
      size = ap chunks_exact_size same ∙ c.chunks_exact-pair-items.ensures.size;
      rest = rw c.new-bytes.ensures (sym all);
      left = rw c.new-bytes.ensures (omega (arith, ap length all));
      so_far = rw c.new-bytes.ensures (record { room = omega arith; each = λ k h. absurd (omega arith) });
    }

pub loop-pair-preserved : goal.loop-pair-preserved
loop-pair-preserved c =
    let l = c.loop-pair in
    let hex = c.args.hex.now in
    let bytes = l.bytes.items in
    let pair = c.in-Some.pair.now in
    let after = chunks_exact_rest c.next.new.self in
    let step = c.in-Some.ensures.steps in
    let two : length pair ≡ 2 = step.1.1 ∙ l.invariant.size in
    let begins : drop (2 * length bytes) hex ≡ pair ++ after = l.invariant.rest ∙ step.1.0 in
    let was : result_ok c.try_push.result ≡ Some c.in_ok-ok.field-0 = sym c.in_ok-ok.ensures.value in
    let items : c.try_push.new.self.items ≡ bytes ++ (16 * c.in_ok-high.high + c.in_ok-low.low) ∷ [] = on_ok _ was c.try_push.ensures.ok in
    let longer : length c.try_push.new.self.items ≡ length bytes + 1 = on_ok _ was c.try_push.ensures.len in
    let room : length bytes < sheet_room = c.try_push.ensures.variant.0 (is_ok_by _ was) in
    let byte = byte_is hex bytes pair after two begins (sym c.in_ok-high.was ∙ c.digit.ensures.value) (sym c.in_ok-low.was ∙ c.digit-in-loop-pair.ensures.value) in
    record {
      size = step.0 ∙ l.invariant.size;
      rest = go_on hex bytes pair after two begins _ (omega (arith, longer, two));
      left = omega (arith, longer, two, ap length step.1.0, length-append pair after, l.invariant.left);
      so_far = rw items (one_more hex bytes _ room byte l.invariant.so_far);
    }

pub returns : goal.returns
returns c =
    let l = c.loop-pair in
    let ended = c.in-None.ensures.steps.1.0 in
    record { some = grind arith; all = omega (arith, ended); digits = l.invariant.so_far }
