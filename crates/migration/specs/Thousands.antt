-- Records in batches of 1,000.
use Rattle.std.specs.Prelude.{ℕ, zero, suc, List, [], ◌∷◌, length, take, drop}
use Rattle.terms_prelude.specs.Terms.{Record}
use Rattle.journal.specs.Texts.{Batch, new_batch}

-- so many batches at most
unfoldable pub thousands : ℕ → List Record → List Batch
thousands zero records = []
thousands (suc most) [] = []
thousands (suc most) (r ∷ rs) = new_batch (take 1000 (r ∷ rs)) ∷ thousands most (drop 1000 (r ∷ rs))

-- all of them, and the last batch has the rest
unfoldable pub in_thousands : List Record → List Batch
in_thousands records = thousands (length records) records
