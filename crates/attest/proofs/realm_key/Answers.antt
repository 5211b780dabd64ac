use Rattle.attest.proofs.Keys.{told-stop, told-room, told-put}
use Rattle.attest.proofs.realm_key.Goals as goal

pub put_key-requires : goal.put_key-requires
put_key-requires c =
    let a = c.args in
    told-room a.state a.page.now a.key.now a.pa a.size a.curve _
    c.page_gate-checked.ensures.value _ c.in-Ok.is

pub returns-in-Err : goal.returns-in-Err
returns-in-Err c =
    let a = c.args in
    told-stop a.state a.page.now a.key.now a.pa a.size a.curve _
    c.page_gate-checked.ensures.value _ c.in-Err.is _ c.refused.ensures

pub returns-in-Ok : goal.returns-in-Ok
returns-in-Ok c =
    let a = c.args in
    told-put a.state a.page.now a.key.now a.pa a.size a.curve _
    c.page_gate-checked.ensures.value _
    c.in-Ok.is _ c.put_key.ensures
