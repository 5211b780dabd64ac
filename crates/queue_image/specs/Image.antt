-- The signing queue as a lent image of 210 words, for C: the number of requests and of responses that wait, then eight requests of 10
-- words, then eight responses of 16 words, oldest first. Assumes nothing.
use Rattle.std.specs.Prelude.{ℕ, zero, suc, ◌-◌, ◌≡◌, Bool, true, List, [], ◌∷◌, ◌++◌, map, length, take, drop, get_or, replicate, leb, ltb, eqb}
use Rattle.words.specs.Tests.{both}
use Rattle.words.specs.Word.{words_of, bytes_of, are_words}
use Rattle.queue.specs.declared.Request.{Request}
use Rattle.queue.specs.declared.Response.{Response}
use Rattle.queue.specs.declared.Queue.{Queue}
use Rattle.queue.specs.Queue.{Signed, Lists, signed_in}

-- ---- the queue of an image
-- the first n rows of `width` words
unfoldable pub rows : ℕ → ℕ → List ℕ → List (List ℕ)
rows width zero w = []
rows width (suc n) w = take width w ∷ rows width n (drop width w)

-- a request: algorithm, granule, ticket, hash id; then the hash, in 6 little-endian words
unfoldable pub request_in : List ℕ → Request
request_in row =
    record {
      algorithm = get_or row 0 0;
      granule = get_or row 1 0;
      ticket = get_or row 2 0;
      hashid = get_or row 3 0;
      hash = bytes_of (drop 4 row);
    }

-- a response: granule, ticket, and the signature's length; then 13 little-endian words, which hold the signature in their first bytes
unfoldable pub held_in : List ℕ → Response
held_in row = record { granule = get_or row 0 0; ticket = get_or row 1 0; len = get_or row 2 0; signature = bytes_of (drop 3 row) }

-- the response in a row, with its signature as a list
unfoldable pub response_in : List ℕ → Signed
response_in row = signed_in (held_in row)

-- the first word is the number of requests, the second of responses; a number above eight counts as eight (CE1, SQ7)
unfoldable pub lists_in : List ℕ → Lists
lists_in w =
    record {
      requests = take (get_or w 0 0) (map request_in (rows 10 8 (drop 2 w)));
      responses = take (get_or w 1 0) (map response_in (rows 16 8 (drop 82 w)));
    }

-- the same by value: all eight places of each side
unfoldable pub queue_in : List ℕ → Queue
queue_in w =
    record {
      requests = record { items = map request_in (rows 10 8 (drop 2 w)); count = get_or w 0 0 };
      responses = record { items = map held_in (rows 16 8 (drop 82 w)); count = get_or w 1 0 };
    }

-- ---- the image of a queue: zeros after what waits, and after each signature
-- the ten words of a request
unfoldable pub request_words : Request → List ℕ
request_words r = r.algorithm ∷ r.granule ∷ r.ticket ∷ r.hashid ∷ words_of 6 r.hash

-- the sixteen words of a response
unfoldable pub response_words : Signed → List ℕ
response_words r = r.granule ∷ r.ticket ∷ length r.signature ∷ words_of 13 r.signature

-- the words of each entry, one after another
unfoldable pub flat : {A : Type 0} → (A → List ℕ) → List A → List ℕ
flat f [] = []
flat f (x ∷ l) = f x ++ flat f l

-- l, filled with zeros to n words
unfoldable pub padded : ℕ → List ℕ → List ℕ
padded n l = l ++ replicate (n - length l) 0

-- the image of a queue
unfoldable pub queue_words : Lists → List ℕ
queue_words q =
    length q.requests ∷ length q.responses ∷
    (padded 80 (flat request_words q.requests) ++ padded 128 (flat response_words q.responses))

-- the words of the oldest request; zeros if no request waits
unfoldable pub oldest_words : List Request → List ℕ
oldest_words [] = replicate 10 0
oldest_words (r ∷ l) = request_words r

-- ---- the queues that an image can hold: at most eight on each side; each number a word, a hash of 48 bytes, a signature of at most 104
-- whether f holds of each entry
unfoldable pub each : {A : Type 0} → (A → Bool) → List A → Bool
each f [] = true
each f (x ∷ l) = both (f x) (each f l)

-- whether each number is a byte
unfoldable pub are_bytes : List ℕ → Bool
are_bytes bs = each (λ (b : ℕ). ltb b 256) bs

-- whether a request fits its row
unfoldable pub request_fits : Request → Bool
request_fits r =
    both (are_words (r.algorithm ∷ r.granule ∷ r.ticket ∷ r.hashid ∷ [])) (both (eqb (length r.hash) 48) (are_bytes r.hash))

-- whether a response fits its row
unfoldable pub response_fits : Signed → Bool
response_fits r = both (are_words (r.granule ∷ r.ticket ∷ [])) (both (leb (length r.signature) 104) (are_bytes r.signature))

-- whether at most eight entries wait and each fits
unfoldable pub eight_fit : {A : Type 0} → (A → Bool) → List A → Bool
eight_fit f l = both (leb (length l) 8) (each f l)

-- whether a queue fits an image
unfoldable pub queue_fits : Lists → Bool
queue_fits q = both (eight_fit request_fits q.requests) (eight_fit response_fits q.responses)

-- the image holds what waits, and zeros elsewhere
unfoldable pub Exact : List ℕ → Type 0
Exact w = w ≡ queue_words (lists_in w)
