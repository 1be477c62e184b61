-- Where the rows that a sieve lets through can stand in an ascending value: words with which each of them is compared.
use Rattle.std.specs.Prelude.{◌≡◌, List, ℕ, ◌+◌, ◌-◌, ◌*◌, ◌≤◌, length}
use Rattle.relations.specs.Lists.{filter}
use Rattle.values.specs.Words.{rows_at, rows_of}
use Rattle.values.specs.Places.{NoneBefore, NoneBehind}
use Rattle.values.specs.declared.rows.Value.{Value}
use Rattle.partners.specs.Sieves.{sifts}
use Rattle.partners.specs.declared.sieve.Entry.{Entry}
use Rattle.partners.specs.declared.bounds.Bounds.{Bounds}
use Rattle.partners.specs.declared.finding.Partners.{Partners}

-- none of a width stands before the low words, and the high words stand before the first columns of none
pub record Bounding (sieve : List Entry) (width : ℕ) (bounds : Bounds) : Type 0 where
  pub inside : length bounds.highs ≤ width
  pub none_before : NoneBefore width bounds.lows (sifts sieve)
  pub none_behind : NoneBehind width bounds.highs (sifts sieve)

-- no right row in front of that number is let through, and the high words stand before none that is
pub record PartnersOf (sieve : List Entry) (right : Value) (work : List ℕ) (partners : Partners) : Type 0 where
  pub inside : partners.number ≤ right.rows
  pub short : length partners.highs ≤ right.width
  pub all : filter (sifts sieve) (rows_of right work) ≡ filter (sifts sieve) (rows_at right.width (right.rows - partners.number) (right.base + partners.number * right.width) work)
  pub none_behind : NoneBehind right.width partners.highs (sifts sieve)
