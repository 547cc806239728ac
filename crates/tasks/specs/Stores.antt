-- The two stores by their words.
use Rattle.std.specs.Prelude.{ℕ, List, cond, codes, Some, None, Option}
use Rattle.std.specs.Str.{bytes_eq}
use Rattle.tasks.specs.declared.store.StoreKind.{StoreKind}
use Rattle.tasks.specs.declared.store.StoreKind.TheVariants.{Table, Bag}

-- the word for each store
abbrev pub store_word : StoreKind → List ℕ
store_word Table = codes "table"
store_word Bag = codes "bag"

-- the store that has a word
abbrev pub store_named : List ℕ → Option StoreKind
store_named word =
    cond (bytes_eq word (store_word Table)) (Some Table)
    (cond (bytes_eq word (store_word Bag)) (Some Bag)
    None)
