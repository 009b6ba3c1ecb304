-- Operations bit by bit.
use Rattle.gate_arith.proofs.Common.{ℕ, ◌≡◌, ◌<◌, ◌+◌, ◌-◌, ◌*◌, ◌^◌, ◌++◌, Bool, true, false, cond, not, ◌&&◌, ◌||◌, List, [], ◌∷◌, get_or, take, map, length, arith, sym, ap, refl, ◌∙◌, length-append, pow-suc, and_block, or_block, xor_block, length-map, map_push, take_more, length-take-le, take_all, digit, GateId, Gate, exclusive, gate_at, Keeps, Makes, And, Or, Xor, Choose, AreGates, Writes, number_at, number_of}
use Rattle.std.specs.Int.RustNames.{bit_or, bit_xor}
use lib.Bits.{bit_and}
use Rattle.gate_arith.specs.declared.bitwise.BitOp.{BitOp}
use Rattle.gate_arith.specs.Bitwise.{IsOp, IsZip, bit_by, zip_by}
use Rattle.gate_arith.proofs.Digits.{keeps_self, keeps_trans, gates_later, gates_push, map-kept, number-below}

zip-push : (f : Bool → Bool → Bool) (xs ys : List Bool) (x y : Bool) → length xs ≡ length ys → zip_by f (xs ++ x ∷ []) (ys ++ y ∷ []) ≡ zip_by f xs ys ++ f x y ∷ []
zip-push f [] [] x y e = refl
zip-push f [] (b ∷ ys) x y e = absurd (omega arith)
zip-push f (a ∷ xs) [] x y e = absurd (omega arith)
zip-push f (a ∷ xs) (b ∷ ys) x y e = ap (λ zs. f a b ∷ zs) (zip-push f xs ys x y (omega arith))

zip-length : (f : Bool → Bool → Bool) (xs ys : List Bool) → length xs ≡ length ys → length (zip_by f xs ys) ≡ length xs
zip-length f [] ys e = refl
zip-length f (a ∷ xs) [] e = absurd (omega arith)
zip-length f (a ∷ xs) (b ∷ ys) e = omega (arith, zip-length f xs ys (omega arith))

pub zip-and : (xs ys : List Bool) → length xs ≡ length ys → number_of (zip_by (λ x y. x && y) xs ys) ≡ bit_and (number_of xs) (number_of ys)
zip-and [] [] e = refl
zip-and [] (b ∷ ys) e = absurd (omega arith)
zip-and (a ∷ xs) [] e = absurd (omega arith)
zip-and (a ∷ xs) (b ∷ ys) e =
    let same : length xs ≡ length ys = omega arith in
    let high : digit (a && b) ≡ bit_and (digit a) (digit b) = bits a b in
    let rest = zip-and xs ys same in
    let long = zip-length (λ x y. x && y) xs ys same in
    rw (long, high, rest) (rw (sym same) (sym (and_block (length xs) (digit a) (digit b) (number_of xs) (number_of ys) (number-below xs) (rw same (number-below ys)))))
  where
    bits : (a b : Bool) → digit (a && b) ≡ bit_and (digit a) (digit b)
    bits true true = refl
    bits true false = refl
    bits false true = refl
    bits false false = refl

pub zip-or : (xs ys : List Bool) → length xs ≡ length ys → number_of (zip_by (λ x y. x || y) xs ys) ≡ bit_or (number_of xs) (number_of ys)
zip-or [] [] e = refl
zip-or [] (b ∷ ys) e = absurd (omega arith)
zip-or (a ∷ xs) [] e = absurd (omega arith)
zip-or (a ∷ xs) (b ∷ ys) e =
    let same : length xs ≡ length ys = omega arith in
    let high : digit (a || b) ≡ bit_or (digit a) (digit b) = bits a b in
    let rest = zip-or xs ys same in
    let long = zip-length (λ x y. x || y) xs ys same in
    rw (long, high, rest) (rw (sym same) (sym (or_block (length xs) (digit a) (digit b) (number_of xs) (number_of ys) (number-below xs) (rw same (number-below ys)))))
  where
    bits : (a b : Bool) → digit (a || b) ≡ bit_or (digit a) (digit b)
    bits true true = refl
    bits true false = refl
    bits false true = refl
    bits false false = refl

pub zip-xor : (xs ys : List Bool) → length xs ≡ length ys → number_of (zip_by exclusive xs ys) ≡ bit_xor (number_of xs) (number_of ys)
zip-xor [] [] e = refl
zip-xor [] (b ∷ ys) e = absurd (omega arith)
zip-xor (a ∷ xs) [] e = absurd (omega arith)
zip-xor (a ∷ xs) (b ∷ ys) e =
    let same : length xs ≡ length ys = omega arith in
    let high : digit (exclusive a b) ≡ bit_xor (digit a) (digit b) = bits a b in
    let rest = zip-xor xs ys same in
    let long = zip-length exclusive xs ys same in
    rw (long, high, rest) (rw (sym same) (sym (xor_block (length xs) (digit a) (digit b) (number_of xs) (number_of ys) (number-below xs) (rw same (number-below ys)))))
  where
    bits : (a b : Bool) → digit (exclusive a b) ≡ bit_xor (digit a) (digit b)
    bits true true = refl
    bits true false = refl
    bits false true = refl
    bits false false = refl

pub zip-cond : (c : Bool) (xs ys : List Bool) → length xs ≡ length ys → zip_by (λ x y. cond c x y) xs ys ≡ cond c xs ys
zip-cond true [] [] e = refl
zip-cond false [] [] e = refl
zip-cond c [] (b ∷ ys) e = absurd (omega arith)
zip-cond c (a ∷ xs) [] e = absurd (omega arith)
zip-cond true (a ∷ xs) (b ∷ ys) e = ap (λ zs. a ∷ zs) (zip-cond true xs ys (omega arith))
zip-cond false (a ∷ xs) (b ∷ ys) e = ap (λ zs. b ∷ zs) (zip-cond false xs ys (omega arith))

-- an operation goes on as it did
bit-kept : (old mid : List Gate) (op : BitOp) → IsOp old op → Keeps old mid → (v : ℕ → Bool) (x y : Bool) → bit_by v mid op x y ≡ bit_by v old op x y
bit-kept old mid And h k v x y = refl
bit-kept old mid Or h k v x y = refl
bit-kept old mid Xor h k v x y = refl
bit-kept old mid (Choose c) h k v x y = ap (λ b. cond b x y) (k.kept v c h)

-- the first bits
pub record IsPartZip (old new : List Gate) (op : BitOp) (a b digits : List GateId) (i : ℕ) : Type 0 where
  pub keeps : Keeps old new
  pub within : AreGates new digits
  pub long : length digits ≡ i
  pub says : (v : ℕ → Bool) → map (gate_at v new) digits ≡ zip_by (bit_by v old op) (map (gate_at v old) (take i a)) (map (gate_at v old) (take i b))

pub zip-more : (old mid new : List Gate) (op : BitOp) (a b digits digits' : List GateId) (digit d : GateId) (i : ℕ) → IsPartZip old mid op a b digits i → IsOp old op
    → i < length a → i < length b → (get_or a i d).index < length old → (get_or b i d).index < length old → Keeps mid new
    → Makes new digit (λ v. bit_by v mid op (gate_at v mid (get_or a i d)) (gate_at v mid (get_or b i d)))
    → digits' ≡ digits ++ digit ∷ [] → IsPartZip old new op a b digits' (i + 1)
zip-more old mid new op a b digits digits' digit d i part fit lta ltb ina inb kept made is = rw is (record {
  keeps = keeps_trans old mid new part.keeps kept;
  within = gates_push new digits digit (gates_later mid new digits kept.longer part.within) made.within;
  long = omega (arith, part.long, length-append digits (digit ∷ []));
  says = λ v.
      let x = gate_at v old (get_or a i d) in
      let y = gate_at v old (get_or b i d) in
      let ax : gate_at v mid (get_or a i d) ≡ x = part.keeps.kept v (get_or a i d) ina in
      let by : gate_at v mid (get_or b i d) ≡ y = part.keeps.kept v (get_or b i d) inb in
      let one : gate_at v new digit ≡ bit_by v old op x y = made.says v ∙ (ap (λ p. bit_by v mid op p (gate_at v mid (get_or b i d))) ax ∙ (ap (λ p. bit_by v mid op x p) by ∙ bit-kept old mid op fit part.keeps v x y)) in
      let left : map (gate_at v old) (take (i + 1) a) ≡ map (gate_at v old) (take i a) ++ x ∷ [] = ap (map (gate_at v old)) (take_more a i d lta) ∙ map_push (gate_at v old) (take i a) (get_or a i d) in
      let right : map (gate_at v old) (take (i + 1) b) ≡ map (gate_at v old) (take i b) ++ y ∷ [] = ap (map (gate_at v old)) (take_more b i d ltb) ∙ map_push (gate_at v old) (take i b) (get_or b i d) in
      let same : length (map (gate_at v old) (take i a)) ≡ length (map (gate_at v old) (take i b)) =
      length-map (take i a) (gate_at v old) ∙ ((length-take-le i a (omega arith) ∙ sym (length-take-le i b (omega arith))) ∙ sym (length-map (take i b) (gate_at v old))) in
      let made_of : zip_by (bit_by v old op) (map (gate_at v old) (take (i + 1) a)) (map (gate_at v old) (take (i + 1) b))
      ≡ zip_by (bit_by v old op) (map (gate_at v old) (take i a)) (map (gate_at v old) (take i b)) ++ bit_by v old op x y ∷ [] =
      rw (left, right) (zip-push (bit_by v old op) (map (gate_at v old) (take i a)) (map (gate_at v old) (take i b)) x y same) in
      map_push (gate_at v new) digits digit ∙ (ap (λ zs. zs ++ gate_at v new digit ∷ []) (map-kept mid new kept digits part.within v ∙ part.says v)
      ∙ (ap (λ z. zip_by (bit_by v old op) (map (gate_at v old) (take i a)) (map (gate_at v old) (take i b)) ++ z ∷ []) one ∙ sym made_of));
})

pub zip-whole : (old new : List Gate) (op : BitOp) (a b digits : List GateId) (i : ℕ) → length a ≡ length b → i ≡ length a → IsPartZip old new op a b digits i → IsZip old new op a b digits
zip-whole old new op a b digits i e at part = record {
  within = part.within;
  long = part.long ∙ at;
  says = λ v.
      let left : take i a ≡ a = take_all i a (omega arith) in
      let right : take i b ≡ b = take_all i b (omega arith) in
      rw (left, right) at (part.says v);
}

pub zip-writes : (old new : List Gate) (op : BitOp) (a b digits : List GateId) (f : (ℕ → Bool) → ℕ → ℕ → ℕ) → length a ≡ length b
    → ((v : ℕ → Bool) (xs ys : List Bool) → length xs ≡ length ys → number_of (zip_by (bit_by v old op) xs ys) ≡ f v (number_of xs) (number_of ys))
    → IsZip old new op a b digits → Writes new digits (length a) (λ v. f v (number_at v old a) (number_at v old b))
zip-writes old new op a b digits f e numbers z = record {
  within = z.within;
  long = z.long;
  says = λ v. ap number_of (z.says v) ∙ numbers v (map (gate_at v old) a) (map (gate_at v old) b) (length-map a (gate_at v old) ∙ (e ∙ sym (length-map b (gate_at v old))));
}

pub choose-number : (c : Bool) (xs ys : List Bool) → length xs ≡ length ys → number_of (zip_by (λ x y. cond c x y) xs ys) ≡ cond c (number_of xs) (number_of ys)
choose-number true xs ys e = ap number_of (zip-cond true xs ys e)
choose-number false xs ys e = ap number_of (zip-cond false xs ys e)

pub no_places : (old : List Gate) (op : BitOp) (a b digits : List GateId) → digits ≡ [] → IsPartZip old old op a b digits 0
no_places old op a b digits e = rw e (record {
  keeps = keeps_self old;
  within = λ i d lt. absurd (omega arith);
  long = refl;
  says = λ v. refl;
})

-- the first bits inverted
pub record IsPartInverse (gates : List Gate) (a digits : List GateId) (i : ℕ) : Type 0 where
  pub within : AreGates gates digits
  pub long : length digits ≡ i
  pub says : (v : ℕ → Bool) → map (gate_at v gates) digits ≡ map (λ x. not (gate_at v gates x)) (take i a)

pub none_inverse : (gates : List Gate) (a digits : List GateId) → digits ≡ [] → IsPartInverse gates a digits 0
none_inverse gates a digits e = rw e (record { within = λ i d lt. absurd (omega arith); long = refl; says = λ v. refl })

pub inverse-more : (gates : List Gate) (a digits digits' : List GateId) (digit d : GateId) (i : ℕ) → IsPartInverse gates a digits i → i < length a
    → Makes gates digit (λ v. not (gate_at v gates (get_or a i d))) → digits' ≡ digits ++ digit ∷ [] → IsPartInverse gates a digits' (i + 1)
inverse-more gates a digits digits' digit d i part lt made is = rw is (record {
  within = gates_push gates digits digit part.within made.within;
  long = omega (arith, part.long, length-append digits (digit ∷ []));
  says = λ v.
      let f : GateId → Bool = λ x. not (gate_at v gates x) in
      let whole : map f (take (i + 1) a) ≡ map f (take i a) ++ f (get_or a i d) ∷ [] = ap (map f) (take_more a i d lt) ∙ map_push f (take i a) (get_or a i d) in
      map_push (gate_at v gates) digits digit ∙ (ap (λ zs. zs ++ gate_at v gates digit ∷ []) (part.says v)
      ∙ (ap (λ z. map f (take i a) ++ z ∷ []) (made.says v) ∙ sym whole));
})

turned : (f : GateId → Bool) (xs : List GateId) → number_of (map (λ x. not (f x)) xs) + number_of (map f xs) + 1 ≡ 2 ^ length xs
turned f [] = refl
turned f (x ∷ xs) =
    let rest = turned f xs in
    let l1 : length (map (λ y. not (f y)) xs) ≡ length xs = length-map xs (λ y. not (f y)) in
    let l2 : length (map f xs) ≡ length xs = length-map xs f in
    rw (l1, l2, pow-suc 2 (length xs)) (both (f x) (2 ^ length xs) (number_of (map (λ y. not (f y)) xs)) (number_of (map f xs)) rest)
  where
    both : (b : Bool) (p n m : ℕ) → n + m + 1 ≡ p → (digit (not b) * p + n) + (digit b * p + m) + 1 ≡ p * 2
    both true p n m h = omega (arith, h)
    both false p n m h = omega (arith, h)

pub inverse-writes : (gates : List Gate) (a digits : List GateId) (i : ℕ) → i ≡ length a → IsPartInverse gates a digits i
    → Writes gates digits (length a) (λ v. 2 ^ length a - 1 - number_at v gates a)
inverse-writes gates a digits i at part = record {
  within = part.within;
  long = part.long ∙ at;
  says = λ v.
      let all : take i a ≡ a = take_all i a (omega arith) in
      let e : map (gate_at v gates) digits ≡ map (λ x. not (gate_at v gates x)) a = part.says v ∙ ap (map (λ x. not (gate_at v gates x))) all in
      let whole = turned (gate_at v gates) a in
      ap number_of e ∙ less (number_of (map (λ x. not (gate_at v gates x)) a)) (number_at v gates a) (2 ^ length a) whole;
}
  where
    less : (n m p : ℕ) → n + m + 1 ≡ p → n ≡ p - 1 - m
    less n m p h = omega (arith, h)

pub turned_in : (old mid new : List Gate) (id a : GateId) → mid ≡ old → new ≡ old → Makes new id (λ v. not (gate_at v mid a)) → Makes old id (λ v. not (gate_at v old a))
turned_in old mid new id a e f m = rw (e, f) at m
