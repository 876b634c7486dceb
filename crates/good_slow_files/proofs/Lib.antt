mod Truth
mod Passing
mod Agreeing
