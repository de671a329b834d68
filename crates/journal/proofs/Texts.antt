-- The bytes of batches, and of one batch more.
use Rattle.std.proofs.Common.{◌≡◌, ℕ, ◌+◌, ◌*◌, List, [], ◌∷◌, ◌++◌, length, take, drop, refl, sym, ◌∙◌, ap, arith, length-append, append-nil, take_at, drop_at}
use Rattle.std.proofs.Math.Nat.{mul-suc, mul-zero}
use Rattle.std.proofs.lemmas.List.Concat.{flat_map-append}
use Rattle.std.specs.List.{flat_map, AllByRecursion}
use Rattle.terms_prelude.specs.Terms.{Record, Said, Decided, Header}
use Rattle.journal.specs.Words.{Spelling, version_2, record_bytes, header_text, Batch, batch_bytes, batch_body, batches_bytes, batch_records, AreBatches, IsBatch}

-- a header has 24 bytes
pub length-header_text : (h : Header) → length (header_text h) ≡ 24
unfolding header_text
length-header_text h = refl

-- a record has six
pub length-record_text : (r : Record) → length (record_bytes r) ≡ 6
unfolding record_bytes
length-record_text (Said s) = refl
length-record_text (Decided question round bit) = refl

-- so many records have so many times as many bytes as one
pub length-spelled : (spelling : Spelling) → ((r : Record) → length (spelling.bytes r) ≡ spelling.width) → (records : List Record) → length (flat_map spelling.bytes records) ≡ spelling.width * length records
length-spelled spelling long [] = sym (mul-zero spelling.width)
length-spelled spelling long (r ∷ rs) =
    length-append (spelling.bytes r) (flat_map spelling.bytes rs)
    ∙ omega (arith, long r, length-spelled spelling long rs, mul-suc spelling.width (length rs))

pub length-records : (records : List Record) → length (flat_map record_bytes records) ≡ 6 * length records
length-records records = length-spelled version_2 length-record_text records

-- with the count
pub length-body : (records : List Record) → length (batch_body records) ≡ 2 + 6 * length records
length-body records = omega (arith, length-records records)

abbrev pub batch_of : ℕ → List Record → Batch
batch_of gate records = record { gate = gate; records = records }

-- one batch more
pub texts-push : (bs : List Batch) (b : Batch) → batches_bytes (bs ++ b ∷ []) ≡ batches_bytes bs ++ batch_bytes b
texts-push bs b =
    flat_map-append batch_bytes bs (b ∷ []) ∙ ap (λ (l : List ℕ). batches_bytes bs ++ l) (append-nil (batch_bytes b))

pub records-push : (bs : List Batch) (b : Batch) → batch_records (bs ++ b ∷ []) ≡ batch_records bs ++ b.records
records-push bs b =
    flat_map-append (λ (batch : Batch). batch.records) bs (b ∷ []) ∙ ap (λ (l : List Record). batch_records bs ++ l) (append-nil b.records)

-- what holds of two lists holds of both
pub all-append : {X : Type 0} (P : X → Type 0) (xs ys : List X) → AllByRecursion P xs → AllByRecursion P ys → AllByRecursion P (xs ++ ys)
all-append P [] ys all more = more
all-append P (x ∷ xs) ys all more = (all.0, all-append P xs ys all.1 more)

pub all-push : {X : Type 0} (P : X → Type 0) (xs : List X) (x : X) → AllByRecursion P xs → P x → AllByRecursion P (xs ++ x ∷ [])
all-push P xs x all is = all-append P xs (x ∷ []) all (is, tt)

pub good-push : (h : Header) (bs : List Batch) (b : Batch) → AreBatches h bs → IsBatch h b → AreBatches h (bs ++ b ∷ [])
good-push h bs b good is = all-push (IsBatch h) bs b good is

-- fronts of one length
pub same_front : (a b x y : List ℕ) → length a ≡ length b → a ++ x ≡ b ++ y → (a ≡ b) × (x ≡ y)
same_front a b x y size same = (
  sym (take_at a x (length b) size) ∙ ap (λ (l : List ℕ). take (length b) l) same ∙ take_at b y (length b) refl,
  sym (drop_at a x (length b) size) ∙ ap (λ (l : List ℕ). drop (length b) l) same ∙ drop_at b y (length b) refl,
)
