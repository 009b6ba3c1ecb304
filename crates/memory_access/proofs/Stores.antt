-- What a store leaves of a memory.
use Rattle.memory_access.proofs.Common.{◌≡◌, ◌⊎◌, ℕ, ◌+◌, ◌%◌, ◌≤◌, Bool, true, false, ◌&&◌, nat_eq, nat_le, if◌then◌else◌, List, [], ◌∷◌, length, map, take, drop, Option, Some, None, refl, sym, ap, ap₂, ◌∙◌, inl, inr, arith, slice_get, find, eqb-true, leb-true, length-take, BlockName, Null, Given, Local, Ptr, Value, Byte, MemoryBlock, Access, equal_names, names, block_bytes, bytes_or_none, bytes_named, access_size, value_bytes, value_of_bytes, admits, is_defined, load_result, overwritten, first_changed, store_result, after_store, Fits, IsElsewhere, frame_of}
use Rattle.byte_block.specs.declared.value.Value.TheVariants as value
use Rattle.memory_access.specs.declared.access_types.Loaded.TheVariants as loaded
use Rattle.memory_access.specs.declared.access_types.Stored.TheVariants as stored
use Rattle.memory_access.proofs.Windows.{length-over, length-take-over, over-part, over-elsewhere}
use Rattle.memory_access.proofs.Values.{length-value_bytes, value_of_bytes-value_bytes}

-- ---- names

and-left : (a b : Bool) → (a && b) ≡ true → a ≡ true
and-left true b e = refl
and-left false b e = e

and-right : (a b : Bool) → (a && b) ≡ true → b ≡ true
and-right true b e = e
and-right false b e = absurd (cc)

equal_names-true : (m n : BlockName) → equal_names m n ≡ true → m ≡ n
equal_names-true Null Null e = refl
equal_names-true Null (Given j) e = absurd (cc)
equal_names-true Null (Local t' p') e = absurd (cc)
equal_names-true (Given i) Null e = absurd (cc)
equal_names-true (Given i) (Given j) e = ap Given (eqb-true i j e)
equal_names-true (Given i) (Local t' p') e = absurd (cc)
equal_names-true (Local t p) Null e = absurd (cc)
equal_names-true (Local t p) (Given j) e = absurd (cc)
equal_names-true (Local t p) (Local t' p') e = ap₂ Local (eqb-true t t' (and-left (nat_eq t t') (nat_eq p p') e)) (eqb-true p p' (and-right (nat_eq t t') (nat_eq p p') e))

names-true : (name : BlockName) (b : MemoryBlock) → names name b ≡ true → name ≡ b.name
names-true Null b e = absurd (cc)
names-true (Given i) b e = equal_names-true (Given i) b.name e
names-true (Local t p) b e = equal_names-true (Local t p) b.name e

names-overwritten : (name : BlockName) (bytes : List Byte) (offset : ℕ) (b : MemoryBlock) → names name (overwritten bytes offset b) ≡ names name b
names-overwritten Null bytes offset b = refl
names-overwritten (Given i) bytes offset b = refl
names-overwritten (Local t p) bytes offset b = refl

-- ---- the first block of a name

find-changed-by : {X : Type 0} (t : X → Bool) (f : X → X) → ((x : X) → t (f x) ≡ t x) → (x : X) (xs : List X) → ((y : X) → find t xs ≡ Some y → find t (first_changed t f xs) ≡ Some (f y)) → (b : Bool) → t x ≡ b → (y : X) → find t (x ∷ xs) ≡ Some y → find t (first_changed t f (x ∷ xs)) ≡ Some (f y)
unfolding first_changed
find-changed-by t f keeps x xs rest true e y is =
    let found : Some x ≡ Some y = rw e at is in
    let same : x ≡ y = cc in
    let still : t (f x) ≡ true = keeps x ∙ e in
    rw (e, still) (ap (λ z. Some (f z)) same)
find-changed-by t f keeps x xs rest false e y is = rw (e, e) (rest y (rw e at is))

find-changed : {X : Type 0} (t : X → Bool) (f : X → X) → ((x : X) → t (f x) ≡ t x) → (xs : List X) (y : X) → find t xs ≡ Some y → find t (first_changed t f xs) ≡ Some (f y)
find-changed t f keeps [] y is = absurd (cc)
find-changed t f keeps (x ∷ xs) y is = find-changed-by t f keeps x xs (find-changed t f keeps xs) (t x) refl y is

-- ---- where an access is defined

pub record Admitted (memory : List MemoryBlock) (p : Ptr) (n align : ℕ) : Type 0 where
  pub block : MemoryBlock
  pub found : find (names p.block) memory ≡ Some block
  pub admitted : admits (Some block) p.offset n align ≡ true

admitted-by : (memory : List MemoryBlock) (p : Ptr) (n align : ℕ) (o : Option MemoryBlock) → find (names p.block) memory ≡ o → admits o p.offset n align ≡ true → Admitted memory p n align
admitted-by memory p n align None found is = absurd (cc)
admitted-by memory p n align (Some b) found is = record { block = b; found = found; admitted = is }

pub admitted_at : (memory : List MemoryBlock) (p : Ptr) (n align : ℕ) → is_defined memory (value.Ptr p) n align ≡ true → Admitted memory p n align
admitted_at memory p n align is = admitted-by memory p n align (find (names p.block) memory) refl is

pub admits-room : (b : MemoryBlock) (offset n align : ℕ) → admits (Some b) offset n align ≡ true → offset + n ≤ length (take b.size b.places)
admits-room b offset n align is =
    let bytes = nat_le (offset + n) (length (take b.size b.places)) in
    let aligned = nat_eq (offset % align) 0 in
    leb-true (offset + n) (length (take b.size b.places)) (and-left (nat_le (offset + n) (length (take b.size b.places))) (nat_le align b.align) (and-left (nat_le (offset + n) (length (take b.size b.places)) && nat_le align b.align) (nat_eq (offset % align) 0) is))

few-places : (b : MemoryBlock) (n : ℕ) → n ≤ length (take b.size b.places) → n ≤ length b.places
few-places b n few = let short = length-take b.size b.places in omega (arith, short)

defined-from_done : (d : Bool) → (if d then stored.Done else stored.Ub) ≡ stored.Done → d ≡ true
defined-from_done true e = refl
defined-from_done false e = absurd (cc)

-- ---- what was stored is loaded

load_result-at : (memory : List MemoryBlock) (p : Ptr) (access : Access) (align : ℕ) (b : MemoryBlock) → find (names p.block) memory ≡ Some b → admits (Some b) p.offset (access_size access) align ≡ true
    → load_result memory (value.Ptr p) access align ≡ loaded.Done (value_of_bytes access (take (access_size access) (drop p.offset (block_bytes b))))
load_result-at memory p access align b found admitted = rw (found, admitted) refl

admits-overwritten : (b : MemoryBlock) (bytes : List Byte) (offset n align : ℕ) → offset + length bytes ≤ length b.places → admits (Some b) offset n align ≡ true → admits (Some (overwritten bytes offset b)) offset n align ≡ true
admits-overwritten b bytes offset n align room is = ap (λ size. nat_le (offset + n) size && nat_le align b.align && nat_eq (offset % align) 0) (length-take-over b.places offset bytes b.size room) ∙ is

load-after_store : (memory : List MemoryBlock) (v : Value) (access : Access) (p : Ptr) (align : ℕ) → Fits access v → (a : Admitted memory p (access_size access) align)
    → load_result (first_changed (names p.block) (overwritten (value_bytes access v) p.offset) memory) (value.Ptr p) access align ≡ loaded.Done v
load-after_store memory v access p align fits a =
    let bytes = value_bytes access v in
    let long : length (value_bytes access v) ≡ access_size access = length-value_bytes access v in
    let room = admits-room a.block p.offset (access_size access) align a.admitted in
    let room' : p.offset + length (value_bytes access v) ≤ length (take a.block.size a.block.places) = omega (arith, long, room) in
    let few = few-places a.block (p.offset + length (value_bytes access v)) room' in
    let found = find-changed (names p.block) (overwritten (value_bytes access v) p.offset) (names-overwritten p.block (value_bytes access v) p.offset) memory a.block a.found in
    load_result-at (first_changed (names p.block) (overwritten (value_bytes access v) p.offset) memory) p access align (overwritten (value_bytes access v) p.offset a.block) found
    (admits-overwritten a.block (value_bytes access v) p.offset (access_size access) align few a.admitted)
    ∙ ap (λ n. loaded.Done (value_of_bytes access (take n (drop p.offset (block_bytes (overwritten (value_bytes access v) p.offset a.block)))))) (sym long)
    ∙ ap (λ ys. loaded.Done (value_of_bytes access ys)) (over-part a.block.places p.offset (value_bytes access v) a.block.size room')
    ∙ ap loaded.Done (value_of_bytes-value_bytes access v fits)

pub loads-after_stores : (memory : List MemoryBlock) (v : Value) (access : Access) (at : Value) (align : ℕ) → Fits access v → store_result memory access at align ≡ stored.Done
    → load_result (after_store memory v access at align) at access align ≡ loaded.Done v
loads-after_stores memory v access (value.Num n) align fits done = absurd (cc)
loads-after_stores memory v access value.Poison align fits done = absurd (cc)
loads-after_stores memory v access (value.Ptr p) align fits done =
    let is = defined-from_done (is_defined memory (value.Ptr p) (access_size access) align) done in
    rw is (load-after_store memory v access p align fits (admitted_at memory p (access_size access) align is))

-- ---- what is elsewhere stays

-- a block is that of another name, or its byte k is as it was
abbrev pub StaysAt : BlockName → BlockName → List Byte → ℕ → ℕ → MemoryBlock → Type 0
StaysAt name q bytes offset k b = ¬ (name ≡ q) ⊎ (slice_get (block_bytes (overwritten bytes offset b)) k ≡ slice_get (block_bytes b) k)

stays-here : (name q : BlockName) (bytes : List Byte) (offset k : ℕ) (b : MemoryBlock) (blocks : List MemoryBlock) → names q b ≡ true → StaysAt name q bytes offset k b → (r : Bool) → names name b ≡ r
    → slice_get (bytes_or_none (find (names name) (overwritten bytes offset b ∷ blocks))) k ≡ slice_get (bytes_or_none (find (names name) (b ∷ blocks))) k
stays-here name q bytes offset k b blocks e (inl other) true e' = absurd (other (names-true name b e' ∙ sym (names-true q b e)))
stays-here name q bytes offset k b blocks e (inr stays) true e' =
    let still : names name (overwritten bytes offset b) ≡ true = names-overwritten name bytes offset b ∙ e' in
    rw (still, e') stays
stays-here name q bytes offset k b blocks e stays false e' =
    let still : names name (overwritten bytes offset b) ≡ false = names-overwritten name bytes offset b ∙ e' in
    rw (still, e') refl

stays-later : (name : BlockName) (k : ℕ) (b : MemoryBlock) (blocks changed : List MemoryBlock) → slice_get (bytes_or_none (find (names name) changed)) k ≡ slice_get (bytes_or_none (find (names name) blocks)) k → (r : Bool) → names name b ≡ r
    → slice_get (bytes_or_none (find (names name) (b ∷ changed))) k ≡ slice_get (bytes_or_none (find (names name) (b ∷ blocks))) k
stays-later name k b blocks changed rest true e = rw e refl
stays-later name k b blocks changed rest false e = rw e rest

stays-by : (name q : BlockName) (bytes : List Byte) (offset k : ℕ) (b : MemoryBlock) (blocks : List MemoryBlock)
    → (((c : MemoryBlock) → find (names q) blocks ≡ Some c → StaysAt name q bytes offset k c) → slice_get (bytes_or_none (find (names name) (first_changed (names q) (overwritten bytes offset) blocks))) k ≡ slice_get (bytes_or_none (find (names name) blocks)) k)
    → ((c : MemoryBlock) → find (names q) (b ∷ blocks) ≡ Some c → StaysAt name q bytes offset k c) → (r : Bool) → names q b ≡ r
    → slice_get (bytes_or_none (find (names name) (first_changed (names q) (overwritten bytes offset) (b ∷ blocks)))) k ≡ slice_get (bytes_or_none (find (names name) (b ∷ blocks))) k
unfolding first_changed
stays-by name q bytes offset k b blocks rest stays true e = rw e (stays-here name q bytes offset k b blocks e (stays b (rw e refl)) (names name b) refl)
stays-by name q bytes offset k b blocks rest stays false e = rw e (stays-later name k b blocks (first_changed (names q) (overwritten bytes offset) blocks) (rest (λ c is. stays c (rw e is))) (names name b) refl)

stays : (name q : BlockName) (bytes : List Byte) (offset k : ℕ) (blocks : List MemoryBlock) → ((c : MemoryBlock) → find (names q) blocks ≡ Some c → StaysAt name q bytes offset k c)
    → slice_get (bytes_or_none (find (names name) (first_changed (names q) (overwritten bytes offset) blocks))) k ≡ slice_get (bytes_or_none (find (names name) blocks)) k
unfolding first_changed
stays name q bytes offset k [] keeps = refl
stays name q bytes offset k (b ∷ blocks) keeps = stays-by name q bytes offset k b blocks (stays name q bytes offset k blocks) keeps (names q b) refl

stays_at : (name : BlockName) (bytes : List Byte) (p : Ptr) (n k : ℕ) (b : MemoryBlock) → n ≡ length bytes → p.offset + length bytes ≤ length b.places → IsElsewhere name k p n → StaysAt name p.block bytes p.offset k b
stays_at name bytes p n k b long room (inl other) = inl other
stays_at name bytes p n k b long room (inr (inl before)) = inr (over-elsewhere b.places p.offset bytes b.size k room (inl before))
stays_at name bytes p n k b long room (inr (inr after)) = inr (over-elsewhere b.places p.offset bytes b.size k room (inr (omega (arith, long, after))))

same_found : {X : Type 0} (o : Option X) (x y : X) → o ≡ Some x → o ≡ Some y → x ≡ y
same_found o x y e f = cc

-- the block that a store changes has room for the bytes
stored-room : (memory : List MemoryBlock) (v : Value) (access : Access) (p : Ptr) (align : ℕ) (c : MemoryBlock) → Admitted memory p (access_size access) align → find (names p.block) memory ≡ Some c → p.offset + length (value_bytes access v) ≤ length c.places
stored-room memory v access p align c a found =
    let same : a.block ≡ c = same_found (find (names p.block) memory) a.block c a.found found in
    let long = length-value_bytes access v in
    let room = admits-room a.block p.offset (access_size access) align a.admitted in
    let room' : p.offset + length (value_bytes access v) ≤ length (take a.block.size a.block.places) = omega (arith, long, room) in
    rw (← same) (few-places a.block (p.offset + length (value_bytes access v)) room')

others-by : (memory : List MemoryBlock) (v : Value) (access : Access) (p : Ptr) (align : ℕ) (name : BlockName) (k : ℕ) → IsElsewhere name k p (access_size access) → (d : Bool) → is_defined memory (value.Ptr p) (access_size access) align ≡ d
    → slice_get (bytes_named (after_store memory v access (value.Ptr p) align) name) k ≡ slice_get (bytes_named memory name) k
others-by memory v access p align name k away false e = rw e refl
others-by memory v access p align name k away true e =
    let a = admitted_at memory p (access_size access) align e in
    rw e (stays name p.block (value_bytes access v) p.offset k memory
    (λ c found. stays_at name (value_bytes access v) p (access_size access) k c (sym (length-value_bytes access v)) (stored-room memory v access p align c a found) away))

pub others-after_store : (memory : List MemoryBlock) (v : Value) (access : Access) (p : Ptr) (align : ℕ) (name : BlockName) (k : ℕ) → IsElsewhere name k p (access_size access)
    → slice_get (bytes_named (after_store memory v access (value.Ptr p) align) name) k ≡ slice_get (bytes_named memory name) k
others-after_store memory v access p align name k away = others-by memory v access p align name k away (is_defined memory (value.Ptr p) (access_size access) align) refl

-- ---- blocks without their bytes

map-changed-by : {X Y : Type 0} (g : X → Y) (t : X → Bool) (f : X → X) (x : X) (xs : List X) → (((y : X) → find t xs ≡ Some y → g (f y) ≡ g y) → map g (first_changed t f xs) ≡ map g xs)
    → ((y : X) → find t (x ∷ xs) ≡ Some y → g (f y) ≡ g y) → (b : Bool) → t x ≡ b → map g (first_changed t f (x ∷ xs)) ≡ map g (x ∷ xs)
unfolding first_changed
map-changed-by g t f x xs rest keeps true e = rw e (ap (λ y. y ∷ map g xs) (keeps x (rw e refl)))
map-changed-by g t f x xs rest keeps false e = rw e (ap (λ ys. g x ∷ ys) (rest (λ y is. keeps y (rw e is))))

map-changed : {X Y : Type 0} (g : X → Y) (t : X → Bool) (f : X → X) (xs : List X) → ((y : X) → find t xs ≡ Some y → g (f y) ≡ g y) → map g (first_changed t f xs) ≡ map g xs
unfolding first_changed
map-changed g t f [] keeps = refl
map-changed g t f (x ∷ xs) keeps = map-changed-by g t f x xs (map-changed g t f xs) keeps (t x) refl

frame-overwritten : (b : MemoryBlock) (bytes : List Byte) (offset : ℕ) → offset + length bytes ≤ length b.places → frame_of (overwritten bytes offset b) ≡ frame_of b
frame-overwritten b bytes offset room = ap (λ n. record { name = b.name; size = b.size; align = b.align; places = n }) (length-over b.places offset bytes room)

frames-by : (memory : List MemoryBlock) (v : Value) (access : Access) (p : Ptr) (align : ℕ) (d : Bool) → is_defined memory (value.Ptr p) (access_size access) align ≡ d → map frame_of (after_store memory v access (value.Ptr p) align) ≡ map frame_of memory
frames-by memory v access p align false e = rw e refl
frames-by memory v access p align true e =
    let a = admitted_at memory p (access_size access) align e in
    rw e (map-changed frame_of (names p.block) (overwritten (value_bytes access v) p.offset) memory
    (λ c found. frame-overwritten c (value_bytes access v) p.offset (stored-room memory v access p align c a found)))

pub frames-after_store : (memory : List MemoryBlock) (v : Value) (access : Access) (at : Value) (align : ℕ) → map frame_of (after_store memory v access at align) ≡ map frame_of memory
frames-after_store memory v access (value.Num n) align = refl
frames-after_store memory v access value.Poison align = refl
frames-after_store memory v access (value.Ptr p) align = frames-by memory v access p align (is_defined memory (value.Ptr p) (access_size access) align) refl
