use mathlib.Core.Path.{refl}
use Rattle.token.proofs.Told.{told-stop, told-room, told-start, told-sent}
use Rattle.token.proofs.platform_token.Goals as goal

pub send-requires : goal.send-requires
send-requires c =
    let a = c.args in
    told-room a.state a.page.now a.session a.busy a.token.now a.pa a.size a.csize _
    c.in-Ok.ensures _ refl

pub returns-in-Err : goal.returns-in-Err
returns-in-Err c =
    let a = c.args in
    told-stop a.state a.page.now a.session a.busy a.token.now a.pa a.size a.csize _
    c.in-Err.ensures _ refl _ c.refused.ensures.0 _
    c.refused.ensures.1

pub returns-in-Err-start_of : goal.returns-in-Err-start_of
returns-in-Err-start_of c =
    let a = c.args in
    told-start a.state a.page.now a.session a.busy a.token.now a.pa a.size a.csize _
    c.in-Ok.ensures _ refl _ c.in-Err-start_of.ensures
    _ refl _ c.refused-in-Err-start_of.ensures.0 _ c.refused-in-Err-start_of.ensures.1

pub returns-in-Ok-start_of : goal.returns-in-Ok-start_of
returns-in-Ok-start_of c =
    let a = c.args in
    told-sent a.state a.page.now a.session a.busy a.token.now a.pa a.size a.csize _
    c.in-Ok.ensures _ refl
    _ c.in-Ok-start_of.ensures
    _ refl _ c.send.ensures
