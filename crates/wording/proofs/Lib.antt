mod Days
mod Places
mod Texts
