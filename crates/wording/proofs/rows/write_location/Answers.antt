use Rattle.std.proofs.Common.{ℕ, List, ◌++◌, ◌≡◌, codes, append_assoc, refl, true}
use Rattle.std.proofs.Output.{has_written_of_eq, has_written_append}
use Rattle.wording.proofs.rows.write_location.Goals as goal

pub returns : goal.returns
returns g c =
    λ plain ok.
    let place = c.in_ok-write.ensures.writes plain (refl {a = true}) in
    let arrival = has_written_append _ _ _ _ _ _ place (c.in_ok-write_time.ensures place.plain (refl {a = true})) in
    let departure = has_written_append _ _ _ _ _ _ arrival (c.in_ok-write_time-2.ensures arrival.plain (refl {a = true})) in
    has_written_of_eq _ _ _ _ _ (in_one _ _ _ _ _ _) (has_written_append _ _ _ _ _ _ departure (c.write-2.ensures.writes departure.plain ok))
  where
    in_one : (role tiploc suffix arrival departure platform : List ℕ)
        → (((role ++ (codes " \"" ++ (tiploc ++ (codes "\", suffix \"" ++ (suffix ++ codes "\""))))) ++ arrival) ++ departure)
        ++ (codes ", platform \"" ++ (platform ++ codes "\""))
        ≡ role ++ codes " \"" ++ tiploc ++ codes "\", suffix \"" ++ suffix ++ codes "\"" ++ arrival ++ departure
        ++ codes ", platform \"" ++ platform ++ codes "\""
    in_one role tiploc suffix arrival departure platform = simp append_assoc
